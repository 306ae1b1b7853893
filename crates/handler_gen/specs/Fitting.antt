-- What the conditions of a code ask of it round a site, where it has the site's blocks.
use Rattle.std.specs.Prelude.{◌<◌, List, length, All}
use Rattle.tpal_syntax.specs.declared.blocks.Block.{Block}
use Rattle.tpal_syntax.specs.declared.blocks.CodeTable.{CodeTable}
use Rattle.tpal_syntax.specs.declared.sites.CallSite.{CallSite}
use Rattle.tpal_syntax.specs.declared.sites.LoopSite.{LoopSite}
use Rattle.tpal_syntax.specs.Parts.{table_of}
use Rattle.tpal_syntax.specs.declared.sites.LeafSite.{LeafSite}
use Rattle.handler_gen.specs.LeafSites.{stored_loop, head_label}
use Rattle.handler_gen.specs.Sites.{joined_label, none_label, split_label}

-- a code has blocks at the labels of a loop's site and round it, and the tables that are carried
pub record HasLoopPlaces (site : LoopSite) (tables : List CodeTable) (all : List Block) : Type 0
  where
    pub none : none_label site.label < length all
    pub split : split_label site < length all
    pub carried : All (λ c. table_of c < length tables) site.carries

-- a code has blocks at the labels of a leaf loop's site and round it, and the tables that are
-- carried
pub record HasLeafPlaces (site : LeafSite) (tables : List CodeTable) (all : List Block) : Type 0
  where
    pub loop : HasLoopPlaces (stored_loop site) tables all
    pub head : head_label site < length all

-- a code has blocks at the labels of a pair of calls and round it
pub record HasCallPlaces (site : CallSite) (all : List Block) : Type 0 where
  pub joined : joined_label site.label < length all
  pub entry : site.entry < length all
