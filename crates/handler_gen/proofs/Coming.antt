-- What a handler makes of a task, as predicates that go backwards.
use Rattle.std.proofs.Common.{ℕ}
use Rattle.tpal_syntax.specs.Listing.{Listing}
use Rattle.tpal_machine.specs.State.{State}
use Rattle.tpal_machine.proofs.Kit.{Back}
use Rattle.handler_gen.specs.Halves.{GoesBack, Halves, Work, IsCutInTwo, LeftGoesOn, ChildGoesOn}
use Rattle.handler_gen.specs.Halves.{moved_on, left_part, child_part}
use Rattle.handler_gen.specs.Reaching as reaching
use Rattle.handler_gen.specs.Sites.{back_label}

module _ (code : Listing) (heartbeat : ℕ) where
  abbrev pub going_back : ℕ → State → Back code heartbeat
  going_back label state = record {
    Holds = GoesBack code heartbeat label state;
    back = λ from after is g. record {
      words = g.words;
      beat = g.beat;
      keeps = g.keeps;
      granted = g.granted;
      comes = reaching.goes_on from after (moved_on state g.words g.beat (back_label label)) is g.comes;
    };
  }

  abbrev pub cut_in_two : Work → Halves → State → Back code heartbeat
  cut_in_two work halves state = record {
    Holds = IsCutInTwo code heartbeat work halves state;
    back = λ from after is c. record {
      last = c.last;
      comes = reaching.goes_on from after c.last is c.comes;
      parts = c.parts;
      forks = c.forks;
      rec = c.rec;
      rest = c.rest;
      left = c.left;
      child = c.child;
    };
  }

  abbrev pub left_going : Work → Halves → State → Back code heartbeat
  left_going work halves state = record {
    Holds = LeftGoesOn code heartbeat work halves state;
    back = λ from after is l. record {
      words = l.words;
      beat = l.beat;
      keeps = l.keeps;
      granted = l.granted;
      comes = reaching.goes_on from after (left_part work halves state l.words l.beat) is l.comes;
    };
  }

  abbrev pub child_going : Work → Halves → State → Back code heartbeat
  child_going work halves state = record {
    Holds = ChildGoesOn code heartbeat work halves state;
    back = λ from after is c. record {
      words = c.words;
      beat = c.beat;
      size = c.size;
      base = c.base;
      loud = c.loud;
      granted = c.granted;
      comes = reaching.goes_on from after (child_part work halves state c.words c.beat) is c.comes;
    };
  }
