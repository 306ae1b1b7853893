-- What flows from several forks into combining blocks.
use Rattle.std.proofs.Common.{◌≡◌, ℕ, zero, suc, ◌+◌, map, replicate, slice_set, slice_index_or, Option, None, List, [], ◌∷◌, ◌++◌, refl, sym, ap, ◌∙◌, append_assoc}
use Rattle.std.proofs.lemmas.List.{replicate-append-replicate}
use Rattle.tpal_verify.specs.declared.kinds.Kind.{Kind}
use Rattle.tpal_verify.specs.declared.trace.Trace.{Trace}
use Rattle.tpal_verify.specs.Flat.{Ground}
use Rattle.tpal_verify.specs.Rules.{note_at}
use Rattle.tpal_verify.specs.Walk.{Flow}
use Rattle.tpal_verify.specs.Rounds.{Shapes, join_in, comb_flow, each_comb_flow, comb_flows, with_flows}
use Rattle.tpal_verify.proofs.Stepping.{with_append}

module _ (whole : Ground) where
  pub each_append : (js : List (List Kind)) (fs gs : List Flow) → each_comb_flow whole js (fs ++ gs) ≡ each_comb_flow whole js fs ++ each_comb_flow whole js gs
  each_append js [] gs = refl
  each_append js (f ∷ fs) gs =
      ap (λ hs. comb_flow (note_at whole f.0) js f ++ hs) (each_append js fs gs)
      ∙ sym (append_assoc (comb_flow (note_at whole f.0) js f) (each_comb_flow whole js fs) (each_comb_flow whole js gs))

  pub combs_append : (js : List (List Kind)) (fs gs : List Flow) → comb_flows whole js (fs ++ gs) ≡ comb_flows whole js fs ++ comb_flows whole js gs
  combs_append [] fs gs = refl
  combs_append (j ∷ js) fs gs = each_append (j ∷ js) fs gs

  pub combs_none : (js : List (List Kind)) → comb_flows whole js [] ≡ []
  combs_none [] = refl
  combs_none (j ∷ js) = refl

  -- staging in two steps
  pub each_more : (xs : Shapes) (js : List (List Kind)) (fs gs : List Flow) → with_flows xs (each_comb_flow whole js (fs ++ gs)) ≡ with_flows (with_flows xs (each_comb_flow whole js fs)) (each_comb_flow whole js gs)
  each_more xs js fs gs = ap (λ hs. with_flows xs hs) (each_append js fs gs) ∙ with_append xs (each_comb_flow whole js fs) (each_comb_flow whole js gs)

-- ---- traces in each other's place

pub same_put : (ts : List (Option Trace)) (l : ℕ) (t old : Option Trace) → old ≡ slice_index_or ts l old → join_in old ≡ join_in t → map join_in (slice_set ts l t) ≡ map join_in ts
same_put [] l t old q e = refl
same_put (x ∷ ts) zero t old q e = ap (λ j. j ∷ map join_in ts) (sym e ∙ ap join_in q)
same_put (x ∷ ts) (suc l) t old q e = ap (λ js. join_in x ∷ js) (same_put ts l t old q e)

abbrev no_trace : Option Trace
no_trace = None

pub one_more_same : (n : ℕ) → replicate n no_trace ++ no_trace ∷ [] ≡ replicate (n + 1) no_trace
one_more_same n = replicate-append-replicate n 1 no_trace
