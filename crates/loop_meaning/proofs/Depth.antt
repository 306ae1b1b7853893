-- What a call does at each depth.
use Rattle.std.proofs.Common.{◌≡◌, ◌<◌, ◌≤◌, ◌+◌, ◌-◌, ℕ, zero, suc, ℤ, List, [], true, false}
use Rattle.std.proofs.Common.{nat_lt, ap, ◌∙◌, arith}
use Rattle.std.proofs.lemmas.Bool.Decides.{nat_tests}
use Rattle.tp_value.specs.declared.limits.TheConstants.{MAX_CALL_DEPTH}
use Rattle.tp_value.specs.declared.Place.{Place}
use Rattle.tp_value.specs.declared.TrapKind.TheVariants.{Deep}
use Rattle.loop_syntax.specs.declared.Func.{Func}
use Rattle.loop_syntax.specs.declared.Reduce.{Reduce}
use Rattle.loop_syntax.specs.declared.Program.{Program}
use Rattle.loop_rules.specs.Names.{func_of}
use Rattle.loop_meaning.specs.State.{State, Note, trapped, out_of_fuel, tick}
use Rattle.loop_meaning.specs.Statements.{Called}
use Rattle.loop_meaning.specs.Calls.{call_at, call_on, enter, no_value, setting}
use Rattle.loop_meaning.proofs.Ticks.{tick_allowed, tick_refused}

room_below : (most depth : ℕ) → depth < most → most - depth ≡ suc (most - (depth + 1))
room_below most depth h = omega arith

no_room : (most : ℕ) → most - most ≡ 0
no_room most = omega arith

-- a call, by its tick
module _ (fuel : ℕ) (s : State) (go : State → Called) where
  allowed : s.ticks < fuel → call_on (tick fuel s).stop (tick fuel s) go ≡ go (record s { ticks = s.ticks + 1 })
  allowed h =
      let e : nat_lt s.ticks fuel ≡ true = grind (arith, nat_tests) in
      ap (λ t. call_on t.stop t go) (tick_allowed fuel s e)

  refused : fuel ≤ s.ticks → call_on (tick fuel s).stop (tick fuel s) go ≡ no_value (out_of_fuel (record s { ticks = fuel + 1 }))
  refused h =
      let e : nat_lt s.ticks fuel ≡ false = grind (arith, nat_tests) in
      ap (λ t. call_on t.stop t go) (tick_refused fuel s e)

module _ (fs : List Func) (fuel : ℕ) (f : List ℕ) (place : Place) (ns : List ℤ) (begin : List Note) (s : State) where
  enters : (room : ℕ) → s.ticks < fuel
      → call_at fs fuel (suc room) f place ns begin s ≡ enter (record { reduces = []; fuel = fuel; call = call_at fs fuel room }) (func_of fs f) ns begin (record s { ticks = s.ticks + 1 })
  unfolding call_at
  enters room h = allowed fuel s (enter (record { reduces = []; fuel = fuel; call = call_at fs fuel room }) (func_of fs f) ns begin) h

  traps : s.ticks < fuel → call_at fs fuel 0 f place ns begin s ≡ no_value (trapped Deep place (record s { ticks = s.ticks + 1 }))
  unfolding call_at
  traps h = allowed fuel s (λ u. no_value (trapped Deep place u)) h

  pub call_spends : (room : ℕ) → fuel ≤ s.ticks → call_at fs fuel room f place ns begin s ≡ no_value (out_of_fuel (record s { ticks = fuel + 1 }))
  unfolding call_at
  call_spends zero h = refused fuel s (λ u. no_value (trapped Deep place u)) h
  call_spends (suc room) h = refused fuel s (enter (record { reduces = []; fuel = fuel; call = call_at fs fuel room }) (func_of fs f) ns begin) h

module _ (p : Program) (fuel : ℕ) (rs : List Reduce) (f : List ℕ) (place : Place) (ns : List ℤ) (begin : List Note) (s : State) where
  pub call_enters : (depth : ℕ) → depth < MAX_CALL_DEPTH → s.ticks < fuel
      → (setting p fuel depth rs).call f place ns begin s ≡ enter (setting p fuel (depth + 1) []) (func_of p.funcs.items f) ns begin (record s { ticks = s.ticks + 1 })
  call_enters depth h t =
      ap (λ room. call_at p.funcs.items fuel room f place ns begin s) (room_below MAX_CALL_DEPTH depth h)
      ∙ enters p.funcs.items fuel f place ns begin s (MAX_CALL_DEPTH - (depth + 1)) t

  pub call_traps : s.ticks < fuel → (setting p fuel MAX_CALL_DEPTH rs).call f place ns begin s ≡ no_value (trapped Deep place (record s { ticks = s.ticks + 1 }))
  call_traps t =
      ap (λ room. call_at p.funcs.items fuel room f place ns begin s) (no_room MAX_CALL_DEPTH) ∙ traps p.funcs.items fuel f place ns begin s t
