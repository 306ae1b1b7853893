-- The code of two calls is written where that of its parts is.
use Rattle.std.proofs.Common.{◌≡◌, ◌≢◌, ℕ, zero, suc, ◌+◌, ◌<◌, ◌≤◌, List, [], ◌∷◌, ◌++◌, length}
use Rattle.std.proofs.Common.{refl, sym, ap, subst, ◌∙◌, append_assoc, arith}
use Rattle.std.specs.Prelude.{All, AllPairs}
use Rattle.std.proofs.lemmas.List.Elements.{All-cons, All-nil}
use Rattle.std.proofs.lemmas.List.Kept.{AllPairs-cons}
use Rattle.tp_value.specs.declared.limits.TheConstants.{MAX_PARAMETERS}
use Rattle.tp_value.specs.declared.Place.{Place}
use Rattle.tp_value.specs.declared.TrapKind.TheVariants.{Deep}
use Rattle.loop_syntax.specs.declared.App.{App}
use Rattle.loop_syntax.specs.declared.Name.{Name}
use Rattle.loop_syntax.specs.declared.Stmt.TheVariants.{Both}
use Rattle.tpal_syntax.specs.declared.blocks.Block.{Block}
use Rattle.tpal_syntax.specs.declared.instructions.Instr.{Instr}
use Rattle.tpal_syntax.specs.declared.instructions.Instr.TheVariants as instr
use Rattle.tpal_syntax.specs.declared.instructions.Term.{Term}
use Rattle.tpal_syntax.specs.declared.instructions.Term.TheVariants.{Halt}
use Rattle.tpal_syntax.specs.declared.instructions.Value.TheVariants as value
use Rattle.tpal_syntax.specs.declared.notes.Note.TheVariants as note
use Rattle.tpal_syntax.specs.declared.sites.CallSite.{CallSite}
use Rattle.tpal_syntax.specs.Listing.{Listing}
use Rattle.expr_lower.specs.declared.scope.Scope.{Scope}
use Rattle.expr_lower.specs.Scopes.{offset_of}
use Rattle.expr_lower.specs.Standing.{AreAt}
use Rattle.expr_lower.proofs.Standing.{front, back}
use Rattle.handler_gen.specs.Blocks.{call_handler_blocks}
use Rattle.handler_gen.specs.Sites.{IsCallSite, child_end_label, joined_label, target_label}
use Rattle.join_gen.specs.Blocks.{call_join_blocks}
use Rattle.block_lower.specs.declared.body.Body.{Body}
use Rattle.block_lower.specs.declared.body.Target.{Target}
use Rattle.block_lower.specs.declared.output.Output.{Output}
use Rattle.block_lower.specs.declared.round.Round as told
use Rattle.block_lower.specs.Bodies.{activation, HasRoomFor}
use Rattle.scene_laws.specs.Code.{OpensAs, Opens, Code, both_code, call_exit, to, store, load}
use Rattle.scene_laws.specs.Layout.{kept_argument, kept_by_both, kept_cell, kept_mark}
use Rattle.scene_laws.specs.Layout.{kept_record, levels_cell, Activation, Entry}
use Rattle.block_lower.specs.Lowering.{AreBothArguments, WritesBothArguments, WritesPassed, Lowers}
use Rattle.block_lower.specs.Lowering.{WritesFirst, WritesJoined, WritesSecond, WritesPair, GoesTo}
use Rattle.block_lower.specs.Lowering.{WritesPassedCall, pair_site}
use Rattle.scene_laws.specs.Pairs.{IsPair, call_enters, call_given, call_site, first_exit, fitted}
use Rattle.scene_laws.specs.Pairs.{kept_from, pair_begins, pair_joined, passed_call, second_call}
use Rattle.block_lower.specs.Writing.{label, next_label, IsFresh, Pushes, Closes, Appends, Readies}
use Rattle.block_lower.specs.Writing.{Stands, Continues, Leads}
use Rattle.block_lower.proofs.Written.Lowered.{cell_is}
use Rattle.block_lower.proofs.Written.LoweredCalls.{IsTarget}
use Rattle.block_lower.proofs.Written.Sited.{no_pairs}
use Rattle.block_lower.proofs.Written.Standing.{sees_bare}
use Rattle.block_lower.proofs.Written.Writing.{reopened_as, pushed, closed_block, empty_opens}
use Rattle.block_lower.proofs.Written.Writing.{fresh_opens}
use Rattle.block_lower.proofs.Written.Writing.{appended}

-- ---- kept cells

kept_more : (act : Activation) (n i : ℕ)
    → kept_from act (suc n) i ≡ kept_from act n i ++ kept_argument act (i + n) ∷ []
kept_more act zero i = ap (λ (k : ℕ). kept_argument act k ∷ []) (omega arith)
kept_more act (suc n) i =
    ap (λ (cells : List ℕ). kept_argument act i ∷ cells)
    (kept_more act n (suc i)
    ∙ ap (λ (k : ℕ). kept_from act n (suc i) ++ kept_argument act k ∷ []) (omega arith))

-- one more kept cell, behind the first ones
pub more_kept : (act : Activation) (n : ℕ)
    → kept_from act (suc n) 0 ≡ kept_from act n 0 ++ kept_argument act n ∷ []
more_kept act n =
    kept_more act n 0 ∙ ap (λ (k : ℕ). kept_from act n 0 ++ kept_argument act k ∷ []) (omega arith)

kept_as_many : (act : Activation) (n i : ℕ) → length (kept_from act n i) ≡ n
kept_as_many act zero i = refl
kept_as_many act (suc n) i = ap suc (kept_as_many act n (suc i))

-- what holds of each of so many kept cells, from one on
all_kept : (act : Activation) (P : ℕ → Type 0) (n i : ℕ)
    → ((k : ℕ) → i ≤ k → k < i + n → P (kept_argument act k)) → All P (kept_from act n i)
all_kept act P zero i each = All-nil P
all_kept act P (suc n) i each =
    All-cons P (kept_argument act i) (kept_from act n (suc i)) (each i (omega arith) (omega arith))
    (all_kept act P n (suc i) (λ k from below. each k (omega (arith, from)) (omega (arith, below))))

kept_differ : (act : Activation) (n i : ℕ) → AllPairs (λ a b. a ≢ b) (kept_from act n i)
kept_differ act zero i = no_pairs (λ a b. a ≢ b)
kept_differ act (suc n) i =
    AllPairs-cons (λ a b. a ≢ b) (kept_argument act i) (kept_from act n (suc i))
    (all_kept act (λ b. kept_argument act i ≢ b) n (suc i)
    (λ k from below same. absurd (omega (arith, from, same))))
    (kept_differ act n (suc i))

-- the site of two calls is a right one
pub right_call_site : (on : Body) (code : Listing) (tables : List (List ℕ)) (many entry at : ℕ)
    → HasRoomFor on (kept_by_both many) → many ≤ MAX_PARAMETERS → at < 65536 → entry < 65536
    → IsCallSite (call_site code (activation on tables) many entry at)
right_call_site on code tables many entry at room few below below_entry =
    let act : Activation = activation on tables in
    let inside : ℕ → Type 0 = λ off. off < on.size in
    let args : List ℕ = kept_from act many 0 in
    record {
      label = below;
      entry = below_entry;
      cells = room.fits;
      offsets =
          All-cons inside (kept_cell act kept_mark) (kept_cell act kept_record ∷ args)
          (omega (arith, room.room))
          (All-cons inside (kept_cell act kept_record) args (omega (arith, room.room))
          (all_kept act inside many 0 (λ k from less. omega (arith, less, few, room.room))));
      offsets_differ =
          AllPairs-cons (λ a b. a ≢ b) (kept_cell act kept_record) args
          (all_kept act (λ b. kept_cell act kept_record ≢ b) many 0
          (λ k from less same. absurd (omega (arith, less, few, same))))
          (kept_differ act many 0);
      few_args = omega (arith, kept_as_many act many 0, few);
    }

-- ---- the blocks

pub first_written : (on : Body) (place : Place) (target : Target) (site : CallSite) (go : ℕ)
    (old ticks given marks tested ready moves new : Output)
    → Pushes (instr.Tick ∷ load 0 levels_cell ∷ []) old ticks
    → Pushes (call_given 1 on.size (site.entry + 1) []) ticks given
    → Pushes (instr.PrmPush 31 site.mark site.cells site.label ∷ []) given marks
    → ((code : Listing) → Stands code tested
    → Continues code marks (instr.IfJump 0 go ∷ instr.Trap Deep place ∷ []) Halt)
    → go ≡ next_label old → go ≡ label tested
    → Readies on.dispatch tested ready → Pushes (call_enters on.size) ready moves
    → Closes (to target.label) moves new → WritesFirst on place target site old new
first_written on place target site go old ticks given marks tested ready moves new tick give mark
    tests go_is here readies move close code tables stands =
    let act : Activation = activation on tables in
    let end : Term = to target.label in
    let n : Continues code ready (call_enters on.size) end =
    pushed code ready moves (call_enters on.size) [] end move
    (closed_block code moves new end close stands) in
    let behind : List Instr = instr.IfJump 0 go ∷ instr.Trap Deep place ∷ [] in
    let t : Continues code marks behind Halt =
    tests code (subst (λ (bs : List Block). AreAt code 0 bs) readies.blocks n.closed) in
    let marked : List Instr = instr.PrmPush 31 site.mark site.cells site.label ∷ behind in
    let b : Continues code old (pair_begins code act site place (site.entry + 1) go) Halt =
    pushed code old ticks (instr.Tick ∷ load 0 levels_cell ∷ [])
    (call_given 1 on.size (site.entry + 1) marked) Halt tick
    (pushed code ticks given (call_given 1 on.size (site.entry + 1) []) marked Halt give
    (pushed code given marks (instr.PrmPush 31 site.mark site.cells site.label ∷ []) behind Halt
    mark t)) in (
      subst (λ (k : ℕ). Continues code old (pair_begins code act site place (site.entry + 1) k)
          Halt) go_is b,
      reopened_as code ready.note (note.Ready on.dispatch) (label ready) (next_label old)
          (call_enters on.size) (call_enters on.size) end readies.noted
          (ap length readies.blocks ∙ sym here ∙ go_is) refl
          (empty_opens code ready (call_enters on.size) end
          (record { body = readies.body; traps = readies.traps }) n),
    )

-- one list of blocks behind another
pub pair_appended : (site : CallSite) (old handled new : Output)
    → Appends (call_handler_blocks site) old handled
    → Appends (call_join_blocks site) handled new
    → Appends (call_handler_blocks site ++ call_join_blocks site) old new
pair_appended site old handled new first second =
    let handler : List Block = call_handler_blocks site in
    let join : List Block = call_join_blocks site in
    record {
      blocks = second.blocks ∙ ap (λ (bs : List Block). bs ++ join) first.blocks
          ∙ append_assoc old.blocks.items handler join;
      fresh = second.fresh;
    }

pub joined_written : (on : Body) (cell : ℕ) (second : Target) (at : ℕ)
    (old stores swaps allocs moves new : Output)
    → Pushes (store cell (value.Reg 0) ∷ []) old stores
    → Pushes (instr.Move 0 (value.Reg 1) ∷ []) stores swaps
    → Pushes (instr.Salloc second.size ∷ []) swaps allocs
    → Pushes (call_enters on.size) allocs moves → Closes (to at) moves new
    → WritesJoined on cell second at old new
joined_written on cell second at old stores swaps allocs moves new one two three four close code
    tables stands =
    let end : Term = to at in
    pushed code old stores (store cell (value.Reg 0) ∷ []) _ end one
    (pushed code stores swaps (instr.Move 0 (value.Reg 1) ∷ []) _ end two
    (pushed code swaps allocs (instr.Salloc second.size ∷ []) _ end three
    (pushed code allocs moves (call_enters on.size) [] end four
    (closed_block code moves new end close stands))))

pub passed_call_written : (on : Body) (many : ℕ) (target : Target) (at : ℕ)
    (old passes ticks new : Output)
    → WritesPassed on many old passes
    → Pushes (instr.Tick ∷ load 0 levels_cell ∷ []) passes ticks
    → ((code : Listing) → Stands code new
    → Continues code ticks (call_given 0 on.size at (call_enters on.size)) (to target.label))
    → WritesPassedCall on many target at old new
passed_call_written on many target at old passes ticks new pass tick enter code tables stands =
    let end : Term = to target.label in
    let behind : List Instr = call_given 0 on.size at (call_enters on.size) in
    pass code tables (instr.Tick ∷ load 0 levels_cell ∷ behind) end
    (pushed code passes ticks (instr.Tick ∷ load 0 levels_cell ∷ []) behind end tick
    (enter code stands))

pub second_written : (on : Body) (many : ℕ) (target : Target) (at : ℕ) (old allocs new : Output)
    → Pushes (instr.Salloc target.size ∷ []) old allocs
    → WritesPassedCall on many target at allocs new → WritesSecond on many target at old new
second_written on many target at old allocs new alloc calls code tables stands =
    pushed code old allocs (instr.Salloc target.size ∷ [])
    (passed_call code (activation on tables) many at) (to target.label) alloc
    (calls code tables stands)

-- ---- both calls

-- what holds of where a call of a function goes holds of that function
of_entry : (P : ℕ → ℕ → Type 0) (entry : Entry) (target : Target) → GoesTo entry target
    → P target.label target.size → P entry.label entry.size
of_entry P entry target goes holds =
    subst (λ (l : ℕ). P l entry.size) (sym goes.label)
    (subst (λ (n : ℕ). P target.label n) (sym goes.size) holds)

pub pair_written : (on : Body) (place : Place) (cell many : ℕ) (first second : Target)
    (site : CallSite)
    (old entered handled joined child between fits again new : Output)
    → ((code : Listing) (tables : List (List ℕ)) → site
    ≡ pair_site code (activation on tables) many (next_label old + 1))
    → IsCallSite site
    → WritesFirst on place first site old entered
    → Appends (call_handler_blocks site ++ call_join_blocks site) entered handled
    → WritesJoined on cell second (site.entry + 2) handled joined → IsFresh joined
    → WritesSecond on many second (child_end_label site.label) joined child → IsFresh child
    → Pushes (first_exit on.size site.mark cell []) child between
    → Pushes (fitted first.size second.size) between fits
    → WritesPassedCall on many second (site.entry + 2) fits again → IsFresh again
    → Pushes (call_exit second.size on.size []) again new
    → site.label ≡ label entered → joined_label site.label ≡ label handled
    → site.entry ≡ label joined → site.entry + 1 ≡ label child → site.entry + 2 ≡ label again
    → WritesPair on place cell many first second old new
pair_written on place cell many first second site old entered handled joined child between fits
    again new is right begins append joins fresh_joined seconds fresh_child leaves fit calls fresh_again exits
    at_entered at_handled at_joined at_child at_again code tables one two more last to_first
    to_second c =
    let act : Activation = activation on tables in
    let return : ℕ = site.entry + 2 in
    let end : Term = to second.label in
    let e : Continues code again (call_exit second.size on.size more) last =
    pushed code again new (call_exit second.size on.size []) more last exits c in
    let call : List Instr = passed_call code act many return in
    let next : List Instr = fitted first.size second.size ++ call in
    let b : Continues code child (first_exit on.size site.mark cell next) end =
    pushed code child between (first_exit on.size site.mark cell []) next end leaves
    (pushed code between fits (fitted first.size second.size) call end fit
    (calls code tables e.closed)) in
    let own : List Instr = second_call code act many second.size (child_end_label site.label) in
    let a : Continues code joined own end = seconds code tables b.closed in
    let j : Continues code handled (pair_joined code act cell second.size) (to return) =
    joins code tables a.closed in
    let handler : List Block = call_handler_blocks site in
    let join : List Block = call_join_blocks site in
    let h : Stands code entered × AreAt code (label entered) (handler ++ join) =
    appended code entered handled (handler ++ join) append j.closed in
    let f : Continues code old
    (pair_begins code act site place (site.entry + 1) (next_label old)) Halt
    × OpensAs code (note.Ready on.dispatch) (next_label old) (call_enters on.size)
    (to first.label) = begins code tables h.0 in
    let pair : IsPair code act on.dispatch place cell many one two site
    (pair_begins code act site place (site.entry + 1) (next_label old)) Halt more last =
    record {
      go = next_label old;
      between = site.entry + 1;
      return = return;
      is = rw (is code tables) refl;
      right = right;
      begins = refl;
      stops = refl;
      enters = of_entry (λ l n. OpensAs code (note.Ready on.dispatch) (next_label old)
          (call_enters on.size) (to l)) one first to_first f.1;
      handler = subst (λ (k : ℕ). AreAt code k handler) (sym at_entered)
          (front code (label entered) handler join h.1);
      join = subst (λ (k : ℕ). AreAt code k join) (ap target_label (sym at_entered))
          (back code (label entered) handler join h.1);
      joined = of_entry (λ l n. Opens code (joined_label site.label) (pair_joined code act cell n)
          (to return)) two second to_second
          (subst (λ (k : ℕ). Opens code k (pair_joined code act cell second.size) (to return))
          (sym at_handled)
          (fresh_opens code handled (pair_joined code act cell second.size) (to return) append.fresh
          j));
      child = of_entry (λ l n. Opens code site.entry
          (second_call code act many n (child_end_label site.label)) (to l)) two second to_second
          (subst (λ (k : ℕ). Opens code k own end) (sym at_joined)
          (fresh_opens code joined own end fresh_joined a));
      after = of_entry (λ l n. Opens code (site.entry + 1)
          (first_exit on.size site.mark cell (fitted one.size n ++ call)) (to l)) two second
          to_second
          (of_entry (λ l n. Opens code (site.entry + 1)
          (first_exit on.size site.mark cell (fitted n second.size ++ call)) end) one first to_first
          (subst (λ (k : ℕ). Opens code k (first_exit on.size site.mark cell next) end)
          (sym at_child)
          (fresh_opens code child (first_exit on.size site.mark cell next) end fresh_child b)));
      behind = of_entry (λ l n. Opens code return (call_exit n on.size more) last) two second
          to_second
          (subst (λ (k : ℕ). Opens code k (call_exit second.size on.size more) last) (sym at_again)
          (fresh_opens code again (call_exit second.size on.size more) last fresh_again e));
    } in
    record {
      instrs = pair_begins code act site place (site.entry + 1) (next_label old);
      end = Halt;
      continues = f.0;
      told = subst (λ (s : CallSite). IsPair code act on.dispatch place cell many one two s
          (pair_begins code act site place (site.entry + 1) (next_label old)) Halt more last)
          (is code tables) pair;
    }

module _ (on : Body) (as_told : told.Round) (scope : Scope) where
  pub both_written : (x y : Name) (f g : App) (first second : Target)
      (old allocs stored paired new : Output)
      → scope.regs.items ≡ []
      → IsTarget on as_told scope f.callee.text.items first.label first.size
      → IsTarget on as_told scope g.callee.text.items second.label second.size
      → HasRoomFor on (kept_by_both (length g.args.items))
      → length g.args.items ≤ MAX_PARAMETERS
      → Pushes (instr.Salloc first.size ∷ []) old allocs
      → WritesBothArguments on scope f.args.items g.args.items allocs stored
      → WritesPair on f.callee.place (offset_of scope x.text.items) (length g.args.items) first
      second stored paired
      → Pushes (store (offset_of scope y.text.items) (value.Reg 0) ∷ []) paired new
      → Lowers on as_told scope (Both x f y g) old new
  both_written x y f g first second old allocs stored paired new none is_first is_second room few alloc
      arguments pair values code tables names round more last same sees fits c =
      let act : Activation = activation on tables in
      let many : ℕ = length g.args.items in
      let own : List Instr = store (offset_of scope y.text.items) (value.Reg 0) ∷ [] in
      let one : Entry = fits.2.entry in
      let two : Entry = fits.3.entry in
      let site : CallSite = pair_site code act many (next_label stored + 1) in
      let goes : GoesTo one first =
      record {
        label = sym (is_first.at_is one fits.2.is_entry);
        size = sym (is_first.size_is one fits.2.is_entry);
      } in
      let w : Leads code stored (λ instrs end. IsPair code act on.dispatch f.callee.place
      (offset_of scope x.text.items) many one two site instrs end (own ++ more) last) =
      pair code tables one two (own ++ more) last goes
      (record {
        label = sym (is_second.at_is two fits.3.is_entry);
        size = sym (is_second.size_is two fits.3.is_entry);
      })
      (pushed code paired new own more last values c) in
      let v : Leads code allocs (λ instrs end. (end ≡ w.end)
      × AreBothArguments code act names f.args.items g.args.items instrs w.instrs) =
      arguments code tables names w.instrs w.end (sees_bare none sees.sees) fits.2.seen fits.3.seen w.continues in
      let is : Code code act round names (Both x f y g) (instr.Salloc one.size ∷ v.instrs) w.end
      more
      last =
      both_code one two site (sees.stand.bare none) room.room fits.2.is_entry fits.2.arity fits.3.is_entry fits.3.arity
      (cell_is on as_told scope tables names round.fixed x.text.items code sees.sees fits.0)
      (cell_is on as_told scope tables names round.fixed y.text.items code sees.sees fits.1) few
      v.told.1.first v.told.1.second w.told in
      record {
        instrs = instr.Salloc first.size ∷ v.instrs;
        end = v.end;
        continues =
            pushed code old allocs (instr.Salloc first.size ∷ []) v.instrs v.end alloc v.continues;
        told = subst (λ (n : ℕ). Code code act round names (Both x f y g)
            (instr.Salloc n ∷ v.instrs) v.end more last) goes.size
            (subst (λ (t : Term). Code code act round names (Both x f y g)
            (instr.Salloc one.size ∷ v.instrs) t more last) (sym v.told.0) is);
      }
