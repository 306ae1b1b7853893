-- What the law of statements asks of a scene, in one record.
use Rattle.std.proofs.Common.{◌≡◌, ◌≢◌, ℕ, suc, ◌<◌, ◌≤◌, List, [], ◌∷◌, ◌++◌, length, Option}
use Rattle.std.proofs.Common.{arith}
use Rattle.std.specs.Prelude.{ℤ}
use Rattle.std.specs.List.{AllByRecursion}
use Rattle.std.proofs.lemmas.List.{length-append}
use Rattle.tp_value.specs.declared.limits.TheConstants.{MAX_PAR_NESTING}
use Rattle.tpal_syntax.specs.Listing.{Listing}
use Rattle.scene_laws.specs.Layout.{bound_cell, cursor_cell, rec_cell, value_cell}
use Rattle.scene_laws.specs.Round.{Round, loop_round}
use Rattle.form_laws.proofs.Forms.LoopScenes.{inside, MayIn}
use Rattle.scene_laws.proofs.Scenes.Scene.{Scene}
use Rattle.form_laws.proofs.Forms.Ticks.{later_in}

module _ (code : Listing) (heartbeat z room : ℕ) where
  -- a scene admits statements where this stands round them and these variables are visible
  pub record Admits (S : Scene code heartbeat z) (round : Round) (names : List (List ℕ)) : Type 0 where
    -- calls have so many levels left
    pub levels : S.levels ≡ room
    -- the variables that the statements declare are the scene's own
    pub lowest : S.lowest ≤ length names
    -- each variable that isn't fixed may change
    pub allows : (x : ℕ) → AllByRecursion (λ j. j ≢ x) round.fixed → S.may (value_cell x)
    -- registers stand for the cells that are told
    pub registers : S.registers ≡ round.registers
    -- the cells of the `par` loops inside may change
    pub controls : (d : ℕ) → round.depth ≤ d → d < MAX_PAR_NESTING
        → S.may (cursor_cell d) × S.may (rec_cell d)

  module _ {S : Scene code heartbeat z} {round : Round} {names : List (List ℕ)}
      (admits : Admits S round names) where
    -- where more variables are visible
    pub admits_more : {more : List (List ℕ)} → length names ≤ length more → Admits S round more
    admits_more longer = record {
      levels = admits.levels;
      lowest = omega (arith, admits.lowest, longer);
      allows = admits.allows;
      registers = admits.registers;
      controls = admits.controls;
    }

    -- with more ticks
    pub admits_later : (n : ℕ) → Admits (later_in code heartbeat z S n) round names
    admits_later n = record {
      levels = admits.levels;
      lowest = admits.lowest;
      allows = admits.allows;
      registers = admits.registers;
      controls = admits.controls;
    }

    -- the cells of a loop don't change in its body; those of another variable may
    other_cell : (x : ℕ) → length names ≢ x → S.may (value_cell x)
        → MayIn (length names) S.may (value_cell x)
    other_cell x other may = (
      λ (q : value_cell x ≡ value_cell (length names)). other (omega (arith, q)),
      λ (q : value_cell x ≡ bound_cell (length names)). absurd (omega (arith, q)),
      may,
    )

    control : (c : ℕ) → c < value_cell 0 → S.may c → MayIn (length names) S.may c
    control c below may = (
      λ (q : c ≡ value_cell (length names)). absurd (omega (arith, q, below)),
      λ (q : c ≡ bound_cell (length names)). absurd (omega (arith, q, below)),
      may,
    )

    inner_controls : (d : ℕ) → round.depth ≤ d → d < MAX_PAR_NESTING
        → MayIn (length names) S.may (cursor_cell d) × MayIn (length names) S.may (rec_cell d)
    inner_controls d from below = (
      control (cursor_cell d) (omega (arith, below)) (admits.controls d from below).0,
      control (rec_cell d) (omega (arith, below)) (admits.controls d from below).1,
    )

    -- inside a loop over the variable behind those that are visible
    module _ (x : List ℕ) (m : ℤ) (held : Option ℤ) where
      abbrev body : Scene code heartbeat z
      body = inside code heartbeat z S (length names) admits.lowest m held

      deeper : suc (length names) ≤ length (names ++ x ∷ [])
      deeper = omega (arith, length-append names (x ∷ []))

      pub admits_loop : Admits body (loop_round round (length names)) (names ++ x ∷ [])
      admits_loop = record {
        levels = admits.levels;
        lowest = deeper;
        allows = λ y free. other_cell y free.0 (admits.allows y free.1);
        registers = admits.registers;
        controls = inner_controls;
      }
