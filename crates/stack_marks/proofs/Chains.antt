-- How the chain between the two ends is kept where a mark comes or goes.
use Rattle.std.proofs.Common.{◌≡◌, ℕ, zero, suc, ◌+◌, ◌-◌, ◌<◌, ◌≤◌, inl, inr, true, false, not}
use Rattle.std.proofs.Common.{List, [], ◌∷◌, ◌++◌, length, get_or, set, replicate, refl, sym, ◌∙◌}
use Rattle.std.proofs.Common.{ap, subst, arith, length-append}
use Rattle.std.specs.Prelude.{pos, filter, slice_get, Option, Some, None, Any, All}
use Rattle.std.specs.Ordering.{int_eq}
use Rattle.std.specs.List.{remove}
use Rattle.std.proofs.lemmas.Bool.{cases_lt, cases_eq, false≢true}
use Rattle.std.proofs.lemmas.List.{get_or-set_same, get_or-set_other, set_past, length-set}
use Rattle.std.proofs.lemmas.List.{get_or_append_left}
use Rattle.std.proofs.lemmas.List.Edits.{length-remove, get_or-remove_below, get_or-remove_above}
use Rattle.std.proofs.Math.Seq.{get_or-append_seam}
use Rattle.stack_marks.specs.declared.mark.Mark.{Mark}
use Rattle.stack_marks.specs.declared.links.Link.{Link}
use Rattle.stack_marks.specs.declared.links.Ends.{Ends}
use Rattle.stack_marks.specs.Stacks.{InOrder}
use Rattle.stack_marks.specs.Linked.{mark_of, marks_from, bare, link_at, newer_at, older_at}
use Rattle.stack_marks.specs.Linked.{AreLinked}
use Rattle.stack_marks.proofs.Rising.{rises, get_or_any, get_or_self, removed_is_filtered}
use Rattle.stack_marks.proofs.Following.{AreEnds, AreChained, opened, closed}
use Rattle.stack_marks.proofs.Linking.{no_mark, nth, IsChain, Stands, stands, Place, place, rising}
use Rattle.stack_marks.proofs.Linking.{same_marks, padded, marked_above, chain_without, chain_added}

-- two places with one position are one
same_place : (low high j k : ℕ) (ms : List Mark) → InOrder low high ms → j < length ms → k < length ms → (nth ms j).at ≡ (nth ms k).at → j ≡ k
same_place low high j k ms o h q e =
    elim (cases_lt j k) [
      | inl a ↦ absurd (let r = rises low high ms o j k no_mark no_mark a q in omega (arith, r, e))
      | inr a ↦ elim (cases_lt k j) [
        | inl b ↦ absurd (let r = rises low high ms o k j no_mark no_mark b h in omega (arith, r, e))
        | inr b ↦ omega (arith, a, b)
      ]
    ]

-- a field that a new link keeps is kept everywhere
kept_field : (field : Link → ℕ) (ls : List Link) (i j : ℕ) (l : Link) → field l ≡ field (get_or ls i bare) → field (get_or (set ls i l) j bare) ≡ field (get_or ls j bare)
kept_field field ls i j l e =
    elim (cases_eq j i) [
      | inl q ↦ elim (cases_lt i (length ls)) [
        | inl h ↦ ap (λ n. field (get_or (set ls i l) n bare)) q ∙ ap field (get_or-set_same ls i l bare h) ∙ e ∙ ap (λ n. field (get_or ls n bare)) (sym q)
        | inr h ↦ ap (λ xs. field (get_or xs j bare)) (set_past ls i l h)
      ]
      | inr q ↦ ap field (get_or-set_other ls i j l bare q)
    ]

-- a link that names another neighbour
abbrev pub with_newer : Link → ℕ → Link
with_newer l x = record { base = l.base; cells = l.cells; older = l.older; newer = x; split = l.split; marked = l.marked }

abbrev pub with_older : Link → ℕ → Link
with_older l x = record { base = l.base; cells = l.cells; older = x; newer = l.newer; split = l.split; marked = l.marked }

-- where the mark at a position stands, and what is left without it
pub record Found (lowest : ℕ) (ls : List Link) (p : ℕ) : Type 0 where
  pub k : ℕ
  pub within : k < length (marks_from lowest ls)
  pub there : (nth (marks_from lowest ls) k).at ≡ p
  pub low : lowest ≤ p
  pub high : p - lowest < length ls
  pub gone : (l : Link) → l.marked ≡ false → marks_from lowest (set ls (p - lowest) l) ≡ remove (marks_from lowest ls) k

pub found : (lowest : ℕ) (ls : List Link) (p : ℕ) → Any (λ m. m.at ≡ p) (marks_from lowest ls) → Found lowest ls p
found lowest ls p a =
    let ms : List Mark = marks_from lowest ls in
    let s : Stands lowest ls (nth ms a.0) = stands lowest ls a.0 a.2 in
    let same : (nth ms a.0).at ≡ p = ap (λ (m : Mark). m.at) (get_or_any ms a.0 no_mark a.1 a.2) ∙ ap (λ (m : Mark). m.at) a.3 ∙ a.4 in
    let high : p - lowest < length ls = omega (arith, s.high, same) in
    let marked : (get_or ls (p - lowest) bare).marked ≡ true = subst (λ x. (link_at lowest ls x).marked ≡ true) same s.marked in
    let q : Place lowest (p - lowest) ls = place lowest (p - lowest) ls high marked in
    record {
      k = q.k;
      within = q.within;
      there = q.there ∙ omega (arith, s.low, same);
      low = omega (arith, s.low, same);
      high = high;
      gone = q.gone;
    }

-- the links after a mark is taken away
pub record IsTaken (lowest : ℕ) (ls new : List Link) (outer : Option Ends) (p : ℕ) : Type 0 where
  pub linked : AreLinked lowest new outer
  pub marks : marks_from lowest new ≡ filter (λ m. not (int_eq (pos m.at) (pos p))) (marks_from lowest ls)

filtered : (lowest : ℕ) (ls : List Link) (p : ℕ) (f : Found lowest ls p) → remove (marks_from lowest ls) f.k ≡ filter (λ m. not (int_eq (pos m.at) (pos p))) (marks_from lowest ls)
filtered lowest ls p f = removed_is_filtered lowest (lowest + length ls) p (marks_from lowest ls) f.k (rising lowest ls) f.within (λ d. ap (λ (m : Mark). m.at) (get_or_any (marks_from lowest ls) f.k d no_mark f.within) ∙ f.there)

ends_without : (ms : List Mark) (k : ℕ) (e : Ends) → 1 < length ms → k < length ms →
    (k ≡ 0 → e.oldest ≡ (nth ms 1).at) → ((k ≡ 0 → ⊥) → e.oldest ≡ (nth ms 0).at) →
    (suc k ≡ length ms → e.newest ≡ (nth ms (length ms - 2)).at) → ((suc k ≡ length ms → ⊥) → e.newest ≡ (nth ms (length ms - 1)).at) →
    AreEnds (remove ms k) e
ends_without ms k e two h o0 o1 n0 n1 = (
  omega (arith, size, two),
  elim (cases_eq k 0) [
    | inl q ↦ o0 q ∙ sym (ap (λ (m : Mark). m.at) (get_or-remove_above ms k no_mark 0 (omega (arith, q)) h))
    | inr q ↦ o1 q ∙ sym (ap (λ (m : Mark). m.at) (get_or-remove_below ms k no_mark 0 (positive q) h))
  ],
  elim (cases_eq (suc k) (length ms)) [
    | inl q ↦ n0 q ∙ sym (ap (λ (m : Mark). m.at) (get_or-remove_below ms k no_mark last (omega (arith, size, q, two)) h ∙ ap (nth ms) before))
    | inr q ↦ n1 q ∙ sym (ap (λ (m : Mark). m.at) (get_or-remove_above ms k no_mark last (less q) h ∙ ap (nth ms) next))
  ],
)
  where
    size : length (remove ms k) + 1 ≡ length ms
    size = length-remove ms k h

    last : ℕ
    last = length (remove ms k) - 1

    before : last ≡ length ms - 2
    before = omega (arith, size, two)

    next : last + 1 ≡ length ms - 1
    next = omega (arith, size, two)

    positive : (k ≡ 0 → ⊥) → 0 < k
    positive q = elim (cases_lt 0 k) [ inl r ↦ r | inr r ↦ absurd (q (omega (arith, r))) ]

    less : (suc k ≡ length ms → ⊥) → k ≤ last
    less q = elim (cases_lt (suc k) (length ms)) [ inl r ↦ omega (arith, r, size) | inr r ↦ absurd (q (omega (arith, r, h))) ]

-- the one mark that stands
pub alone : (lowest : ℕ) (ls : List Link) (p : ℕ) (l : Link) (e : Ends) → AreChained lowest ls e → Any (λ m. m.at ≡ p) (marks_from lowest ls) →
    p ≡ e.oldest → p ≡ e.newest → l.marked ≡ false → IsTaken lowest ls (set ls (p - lowest) l) None p
alone lowest ls p l e s a eo en u =
    let ms : List Mark = marks_from lowest ls in
    let f : Found lowest ls p = found lowest ls p a in
    let first : f.k ≡ 0 = same_place lowest (lowest + length ls) f.k 0 ms (rising lowest ls) f.within s.ends.0 (f.there ∙ eo ∙ s.ends.1) in
    let last : f.k ≡ length ms - 1 = same_place lowest (lowest + length ls) f.k (length ms - 1) ms (rising lowest ls) f.within (omega (arith, s.ends.0)) (f.there ∙ en ∙ s.ends.2) in
    let size : length (remove ms f.k) + 1 ≡ length ms = length-remove ms f.k f.within in
    let empty : marks_from lowest (set ls (p - lowest) l) ≡ [] = f.gone l u ∙ nothing (remove ms f.k) (omega (arith, size, first, last, s.ends.0)) in
    record {
      linked = empty;
      marks = f.gone l u ∙ filtered lowest ls p f;
    }
  where
    nothing : (ms : List Mark) → length ms ≡ 0 → ms ≡ []
    nothing [] z = refl
    nothing (m ∷ ms) z = absurd (omega (arith, z))

-- the oldest of several
pub oldest_gone : (lowest : ℕ) (ls : List Link) (p x : ℕ) (l : Link) (e : Ends) → AreChained lowest ls e → Any (λ m. m.at ≡ p) (marks_from lowest ls) →
    p ≡ e.oldest → (p ≡ e.newest → ⊥) → x ≡ (get_or ls (p - lowest) bare).newer →
    l.marked ≡ false → l.newer ≡ (get_or ls (p - lowest) bare).newer → l.older ≡ (get_or ls (p - lowest) bare).older →
    IsTaken lowest ls (set ls (p - lowest) l) (Some (record { oldest = x; newest = e.newest })) p
oldest_gone lowest ls p x l e s a eo en ex u ln lo =
    let ms : List Mark = marks_from lowest ls in
    let new : List Link = set ls (p - lowest) l in
    let f : Found lowest ls p = found lowest ls p a in
    let first : f.k ≡ 0 = same_place lowest (lowest + length ls) f.k 0 ms (rising lowest ls) f.within s.ends.0 (f.there ∙ eo ∙ s.ends.1) in
    let inner : suc f.k ≡ length ms → ⊥ = λ q. en (sym f.there ∙ ap (λ n. (nth ms n).at) (let z : f.k ≡ length ms - 1 = omega (arith, q) in z) ∙ sym s.ends.2) in
    let two : 1 < length ms = more_than (length ms) f.k first f.within inner in
    let second : x ≡ (nth ms 1).at = ex ∙ ap (newer_at lowest ls) (sym f.there) ∙ (s.chain f.k (omega (arith, first, two))).0 ∙ ap (λ n. (nth ms (suc n)).at) first in
    record {
      linked = closed lowest _ _ (record {
        ends = subst (λ ns. AreEnds ns (record { oldest = x; newest = e.newest })) (sym (f.gone l u)) (ends_without ms f.k (record { oldest = x; newest = e.newest }) two f.within (λ _. second) (λ q. absurd (q first)) (λ q. absurd (inner q)) (λ _. s.ends.2));
        chain = subst (IsChain (newer_at lowest new) (older_at lowest new)) (sym (f.gone l u)) (chain_without (newer_at lowest ls) (newer_at lowest new) (older_at lowest ls) (older_at lowest new) f.k ms f.within s.chain (λ i _ _. kept_field (λ z. z.newer) ls (p - lowest) ((nth ms i).at - lowest) l ln) (λ i _ _. kept_field (λ z. z.older) ls (p - lowest) ((nth ms i).at - lowest) l lo) (λ i q _. absurd (omega (arith, q, first))));
      });
      marks = f.gone l u ∙ filtered lowest ls p f;
    }
  where
    more_than : (n k : ℕ) → k ≡ 0 → k < n → (suc k ≡ n → ⊥) → 1 < n
    more_than n k z h q = elim (cases_lt (suc k) n) [ inl r ↦ omega (arith, r, z) | inr r ↦ absurd (q (omega (arith, r, h))) ]

-- the newest of several
pub newest_gone : (lowest : ℕ) (ls : List Link) (p x : ℕ) (l : Link) (e : Ends) → AreChained lowest ls e → Any (λ m. m.at ≡ p) (marks_from lowest ls) →
    (p ≡ e.oldest → ⊥) → p ≡ e.newest → x ≡ (get_or ls (p - lowest) bare).older →
    l.marked ≡ false → l.newer ≡ (get_or ls (p - lowest) bare).newer → l.older ≡ (get_or ls (p - lowest) bare).older →
    IsTaken lowest ls (set ls (p - lowest) l) (Some (record { oldest = e.oldest; newest = x })) p
newest_gone lowest ls p x l e s a eo en ex u ln lo =
    let ms : List Mark = marks_from lowest ls in
    let new : List Link = set ls (p - lowest) l in
    let f : Found lowest ls p = found lowest ls p a in
    let last : f.k ≡ length ms - 1 = same_place lowest (lowest + length ls) f.k (length ms - 1) ms (rising lowest ls) f.within (omega (arith, s.ends.0)) (f.there ∙ en ∙ s.ends.2) in
    let outer : suc f.k ≡ length ms = omega (arith, last, s.ends.0) in
    let later : f.k ≡ 0 → ⊥ = λ q. eo (sym f.there ∙ ap (λ n. (nth ms n).at) q ∙ sym s.ends.1) in
    let two : 1 < length ms = elim (cases_lt 0 f.k) [ inl r ↦ omega (arith, r, f.within) | inr r ↦ absurd (later (omega (arith, r))) ] in
    let before : f.k ≡ suc (length ms - 2) = omega (arith, last, two) in
    let previous : x ≡ (nth ms (length ms - 2)).at = ex ∙ ap (older_at lowest ls) (sym f.there) ∙ ap (λ n. older_at lowest ls (nth ms n).at) before ∙ (s.chain (length ms - 2) (omega (arith, two))).1 in
    record {
      linked = closed lowest _ _ (record {
        ends = subst (λ ns. AreEnds ns (record { oldest = e.oldest; newest = x })) (sym (f.gone l u)) (ends_without ms f.k (record { oldest = e.oldest; newest = x }) two f.within (λ q. absurd (later q)) (λ _. s.ends.1) (λ _. previous) (λ q. absurd (q outer)));
        chain = subst (IsChain (newer_at lowest new) (older_at lowest new)) (sym (f.gone l u)) (chain_without (newer_at lowest ls) (newer_at lowest new) (older_at lowest ls) (older_at lowest new) f.k ms f.within s.chain (λ i _ _. kept_field (λ z. z.newer) ls (p - lowest) ((nth ms i).at - lowest) l ln) (λ i _ _. kept_field (λ z. z.older) ls (p - lowest) ((nth ms i).at - lowest) l lo) (λ i q h. absurd (omega (arith, outer, h))));
      });
      marks = f.gone l u ∙ filtered lowest ls p f;
    }

-- the neighbours of a mark between others
pub record AreNeighbours (lowest : ℕ) (ls : List Link) (p : ℕ) : Type 0 where
  pub j : ℕ
  pub within : suc (suc j) < length (marks_from lowest ls)
  pub there : (nth (marks_from lowest ls) (suc j)).at ≡ p
  pub before : (nth (marks_from lowest ls) j).at ≡ (get_or ls (p - lowest) bare).older
  pub behind : (nth (marks_from lowest ls) (suc (suc j))).at ≡ (get_or ls (p - lowest) bare).newer
  pub older_low : lowest ≤ (get_or ls (p - lowest) bare).older
  pub older_high : (get_or ls (p - lowest) bare).older - lowest < length ls
  pub newer_low : lowest ≤ (get_or ls (p - lowest) bare).newer
  pub newer_high : (get_or ls (p - lowest) bare).newer - lowest < length ls

pub neighbours : (lowest : ℕ) (ls : List Link) (p : ℕ) (e : Ends) → AreChained lowest ls e → Any (λ m. m.at ≡ p) (marks_from lowest ls) → (p ≡ e.oldest → ⊥) → (p ≡ e.newest → ⊥) → AreNeighbours lowest ls p
neighbours lowest ls p e s a eo en =
    let ms : List Mark = marks_from lowest ls in
    let f : Found lowest ls p = found lowest ls p a in
    let later : f.k ≡ 0 → ⊥ = λ q. eo (sym f.there ∙ ap (λ n. (nth ms n).at) q ∙ sym s.ends.1) in
    let inner : f.k ≡ length ms - 1 → ⊥ = λ q. en (sym f.there ∙ ap (λ n. (nth ms n).at) q ∙ sym s.ends.2) in
    let above : 0 < f.k = elim (cases_lt 0 f.k) [ inl r ↦ r | inr r ↦ absurd (later (omega (arith, r))) ] in
    let below : suc f.k < length ms = elim (cases_lt (suc f.k) (length ms)) [ inl r ↦ r | inr r ↦ absurd (inner (omega (arith, r, f.within))) ] in
    let k : f.k ≡ suc (f.k - 1) = omega (arith, above) in
    let there : (nth ms (suc (f.k - 1))).at ≡ p = ap (λ n. (nth ms n).at) (sym k) ∙ f.there in
    let within : suc (suc (f.k - 1)) < length ms = omega (arith, above, below) in
    let before : (nth ms (f.k - 1)).at ≡ older_at lowest ls p = sym (s.chain (f.k - 1) (omega (arith, f.within, above))).1 ∙ ap (older_at lowest ls) there in
    let behind : (nth ms (suc (suc (f.k - 1)))).at ≡ newer_at lowest ls p = sym (s.chain (suc (f.k - 1)) within).0 ∙ ap (newer_at lowest ls) there in
    let b : Stands lowest ls (nth ms (f.k - 1)) = stands lowest ls (f.k - 1) (omega (arith, f.within)) in
    let n : Stands lowest ls (nth ms (suc (suc (f.k - 1)))) = stands lowest ls (suc (suc (f.k - 1))) within in
    record {
      j = f.k - 1;
      within = within;
      there = there;
      before = before;
      behind = behind;
      older_low = omega (arith, before, b.low);
      older_high = omega (arith, before, b.high);
      newer_low = omega (arith, behind, n.low);
      newer_high = omega (arith, behind, n.high);
    }

-- a mark between others
pub between_gone : (lowest : ℕ) (ls : List Link) (p a b : ℕ) (l la lb : Link) (e : Ends) → AreChained lowest ls e → Any (λ m. m.at ≡ p) (marks_from lowest ls) →
    (p ≡ e.oldest → ⊥) → (p ≡ e.newest → ⊥) → a ≡ (get_or ls (p - lowest) bare).older → b ≡ (get_or ls (p - lowest) bare).newer →
    l.marked ≡ false → l.newer ≡ (get_or ls (p - lowest) bare).newer → l.older ≡ (get_or ls (p - lowest) bare).older →
    la ≡ with_newer (get_or (set ls (p - lowest) l) (a - lowest) bare) b →
    lb ≡ with_older (get_or (set (set ls (p - lowest) l) (a - lowest) la) (b - lowest) bare) a →
    IsTaken lowest ls (set (set (set ls (p - lowest) l) (a - lowest) la) (b - lowest) lb) (Some e) p
between_gone lowest ls p a b l la lb e s any eo en ea eb u ln lo ela elb =
    let ms : List Mark = marks_from lowest ls in
    let first : List Link = set ls (p - lowest) l in
    let second : List Link = set first (a - lowest) la in
    let third : List Link = set second (b - lowest) lb in
    let f : Found lowest ls p = found lowest ls p any in
    let n : AreNeighbours lowest ls p = neighbours lowest ls p e s any eo en in
    let k : f.k ≡ suc n.j = same_place lowest (lowest + length ls) f.k (suc n.j) ms (rising lowest ls) f.within (omega (arith, n.within)) (f.there ∙ sym n.there) in
    let at_a : (nth ms n.j).at ≡ a = n.before ∙ sym ea in
    let at_b : (nth ms (suc (suc n.j))).at ≡ b = n.behind ∙ sym eb in
    let long1 : length first ≡ length ls = length-set ls (p - lowest) l in
    let long2 : length second ≡ length ls = length-set first (a - lowest) la ∙ long1 in
    let gone : marks_from lowest third ≡ remove ms f.k =
    same_marks lowest (b - lowest) second lb (ap (λ (z : Link). z.marked) elb) (ap (mark_of 0) elb)
    ∙ same_marks lowest (a - lowest) first la (ap (λ (z : Link). z.marked) ela) (ap (mark_of 0) ela)
    ∙ f.gone l u in
    let newer_same : (x : ℕ) → (x - lowest ≡ a - lowest → ⊥) → newer_at lowest third x ≡ newer_at lowest ls x = λ x q.
    kept_field (λ z. z.newer) second (b - lowest) (x - lowest) lb (ap (λ (z : Link). z.newer) elb)
    ∙ ap (λ (z : Link). z.newer) (get_or-set_other first (a - lowest) (x - lowest) la bare q)
    ∙ kept_field (λ z. z.newer) ls (p - lowest) (x - lowest) l ln in
    let newer_mended : newer_at lowest third a ≡ b =
    kept_field (λ z. z.newer) second (b - lowest) (a - lowest) lb (ap (λ (z : Link). z.newer) elb)
    ∙ ap (λ (z : Link). z.newer) (get_or-set_same first (a - lowest) la bare (omega (arith, long1, n.older_high, ea)))
    ∙ ap (λ (z : Link). z.newer) ela in
    let older_same : (x : ℕ) → (x - lowest ≡ b - lowest → ⊥) → older_at lowest third x ≡ older_at lowest ls x = λ x q.
    ap (λ (z : Link). z.older) (get_or-set_other second (b - lowest) (x - lowest) lb bare q)
    ∙ kept_field (λ z. z.older) first (a - lowest) (x - lowest) la (ap (λ (z : Link). z.older) ela)
    ∙ kept_field (λ z. z.older) ls (p - lowest) (x - lowest) l lo in
    let older_mended : older_at lowest third b ≡ a =
    ap (λ (z : Link). z.older) (get_or-set_same second (b - lowest) lb bare (omega (arith, long2, n.newer_high, eb)))
    ∙ ap (λ (z : Link). z.older) elb in
    let apart : (i j : ℕ) → i < length ms → j < length ms → (i ≡ j → ⊥) → (nth ms i).at - lowest ≡ (nth ms j).at - lowest → ⊥ = λ i j hi hj q z.
    q (same_place lowest (lowest + length ls) i j ms (rising lowest ls) hi hj (let x = (stands lowest ls i hi).low in let y = (stands lowest ls j hj).low in omega (arith, x, y, z))) in
    record {
      linked = closed lowest _ _ (record {
        ends = subst (λ ns. AreEnds ns e) (sym gone) (ends_without ms f.k e (omega (arith, n.within)) f.within (λ q. absurd (omega (arith, q, k))) (λ _. s.ends.1) (λ q. absurd (omega (arith, q, k, n.within))) (λ _. s.ends.2));
        chain = subst (IsChain (newer_at lowest third) (older_at lowest third)) (sym gone) (chain_without (newer_at lowest ls) (newer_at lowest third) (older_at lowest ls) (older_at lowest third) f.k ms f.within s.chain
            (λ i h q. newer_same (nth ms i).at (λ z. apart i n.j h (omega (arith, n.within)) (λ y. q (omega (arith, y, k))) (z ∙ ap (λ y. y - lowest) (sym at_a))))
            (λ i h q. older_same (nth ms i).at (λ z. apart i (suc (suc n.j)) h n.within (λ y. q (omega (arith, y, k))) (z ∙ ap (λ y. y - lowest) (sym at_b))))
            (λ i q h.
            let i_j : i ≡ n.j = omega (arith, q, k) in
            let next : suc f.k ≡ suc (suc n.j) = omega (arith, k) in
            let here : (nth ms i).at ≡ a = ap (λ y. (nth ms y).at) i_j ∙ at_a in
            let there : (nth ms (suc f.k)).at ≡ b = ap (λ y. (nth ms y).at) next ∙ at_b in
            (ap (newer_at lowest third) here ∙ newer_mended ∙ sym there, ap (older_at lowest third) there ∙ older_mended ∙ sym here)));
      });
      marks = gone ∙ filtered lowest ls p f;
    }

-- a link read at one default or another
pub link_any : (ls : List Link) (n : ℕ) (a b : Link) → n < length ls → get_or ls n a ≡ get_or ls n b
link_any [] n a b h = absurd (omega (arith, h))
link_any (l ∷ ls) zero a b h = refl
link_any (l ∷ ls) (suc n) a b h = link_any ls n a b (omega (arith, h))

-- the cell that the stack holds as its oldest
pub record Oldest (lowest : ℕ) (ls : List Link) (e : Ends) : Type 0 where
  pub low : lowest ≤ e.oldest
  pub high : e.oldest - lowest < length ls
  pub first : slice_get (marks_from lowest ls) 0 ≡ Some (mark_of e.oldest (link_at lowest ls e.oldest))

pub oldest_stands : (lowest : ℕ) (ls : List Link) (e : Ends) → AreChained lowest ls e → Oldest lowest ls e
oldest_stands lowest ls e s =
    let ms : List Mark = marks_from lowest ls in
    let t : Stands lowest ls (nth ms 0) = stands lowest ls 0 s.ends.0 in
    record {
      low = omega (arith, t.low, s.ends.1);
      high = omega (arith, t.high, s.ends.1);
      first = head ms s.ends.0 ∙ ap Some (t.same ∙ ap (λ n. mark_of n (link_at lowest ls n)) (sym s.ends.1));
    }
  where
    head : (ms : List Mark) → 0 < length ms → slice_get ms 0 ≡ Some (nth ms 0)
    head [] h = absurd (omega (arith, h))
    head (m ∷ ms) h = refl

pub newest_is : (lowest : ℕ) (ls : List Link) (e : Ends) → AreChained lowest ls e → Any (λ m. m.at ≡ e.newest) (marks_from lowest ls) × All (λ m. m.at ≤ e.newest) (marks_from lowest ls)
newest_is lowest ls e s =
    let ms : List Mark = marks_from lowest ls in
    let within : length ms - 1 < length ms = omega (arith, s.ends.0) in (
      (length ms - 1, nth ms (length ms - 1), within, get_or_self ms (length ms - 1) no_mark within, sym s.ends.2),
      λ k d h. elim (cases_lt k (length ms - 1)) [
        | inl r ↦ let q = rises lowest (lowest + length ls) ms (rising lowest ls) k (length ms - 1) d no_mark r within in omega (arith, q, s.ends.2)
        | inr r ↦
            let last : k ≡ length ms - 1 = omega (arith, r, h) in
            let same : (get_or ms k d).at ≡ (nth ms (length ms - 1)).at = ap (λ (m : Mark). m.at) (get_or_any ms k d no_mark h) ∙ ap (λ n. (nth ms n).at) last in
            omega (arith, same, s.ends.2)
      ],
    )

-- a cell whose link says so is marked, and no other
pub marked_there : (lowest : ℕ) (ls : List Link) (p : ℕ) → lowest ≤ p → p - lowest < length ls → (get_or ls (p - lowest) bare).marked ≡ true → Any (λ m. m.at ≡ p) (marks_from lowest ls)
marked_there lowest ls p low high e =
    let ms : List Mark = marks_from lowest ls in
    let q : Place lowest (p - lowest) ls = place lowest (p - lowest) ls high e in
    (q.k, nth ms q.k, q.within, get_or_self ms q.k no_mark q.within, q.there ∙ omega (arith, low))

pub bare_there : (lowest : ℕ) (ls : List Link) (p : ℕ) → (p - lowest < length ls → (get_or ls (p - lowest) bare).marked ≡ false) → All (λ m. m.at ≡ p → ⊥) (marks_from lowest ls)
bare_there lowest ls p e k d h q =
    let ms : List Mark = marks_from lowest ls in
    let s : Stands lowest ls (nth ms k) = stands lowest ls k h in
    let same : (nth ms k).at ≡ p = ap (λ (m : Mark). m.at) (get_or_any ms k no_mark d h) ∙ q in
    false≢true (sym (e (omega (arith, s.high, same))) ∙ subst (λ x. (link_at lowest ls x).marked ≡ true) same s.marked)

-- links of cells that were never marked change nothing
pub padded_linked : (lowest n : ℕ) (ls : List Link) (e : Ends) → AreChained lowest ls e → AreChained lowest (ls ++ replicate n bare) e
padded_linked lowest n ls e s =
    let ms : List Mark = marks_from lowest ls in
    let new : List Link = ls ++ replicate n bare in
    let read : (k : ℕ) → k < length ms → link_at lowest new (nth ms k).at ≡ link_at lowest ls (nth ms k).at = λ k h. get_or_append_left ls (replicate n bare) bare ((nth ms k).at - lowest) (stands lowest ls k h).high in
    record {
      ends = subst (λ ns. AreEnds ns e) (sym (padded lowest n ls)) s.ends;
      chain = subst (IsChain (newer_at lowest new) (older_at lowest new)) (sym (padded lowest n ls)) (λ k h. (ap (λ (z : Link). z.newer) (read k (omega (arith, h))) ∙ (s.chain k h).0, ap (λ (z : Link). z.older) (read (suc k) h) ∙ (s.chain k h).1));
    }

pub padded_are_linked : (lowest n : ℕ) (ls : List Link) (outer : Option Ends) → AreLinked lowest ls outer → AreLinked lowest (ls ++ replicate n bare) outer
padded_are_linked lowest n ls None e = padded lowest n ls ∙ e
padded_are_linked lowest n ls (Some e) s = closed lowest (ls ++ replicate n bare) e (padded_linked lowest n ls e (opened lowest ls e s))

-- the links after a mark is added above all others
pub record IsAdded (lowest : ℕ) (ls new : List Link) (outer : Option Ends) (m : Mark) : Type 0 where
  pub linked : AreLinked lowest new outer
  pub marks : marks_from lowest new ≡ marks_from lowest ls ++ m ∷ []

-- the only one
pub first_added : (lowest at : ℕ) (ls : List Link) (l : Link) → marks_from lowest ls ≡ [] → lowest ≤ at → at - lowest < length ls → l.marked ≡ true →
    IsAdded lowest ls (set ls (at - lowest) l) (Some (record { oldest = at; newest = at })) (mark_of at l)
first_added lowest at ls l none low high e =
    let there : lowest + (at - lowest) ≡ at = omega (arith, low) in
    let no_others : (k : ℕ) (d : Mark) → k < length (marks_from lowest ls) → (get_or (marks_from lowest ls) k d).at < lowest + (at - lowest) = λ k d h. absurd (let z = ap length none in omega (arith, h, z)) in
    let one : marks_from lowest (set ls (at - lowest) l) ≡ marks_from lowest ls ++ mark_of at l ∷ [] = marked_above lowest (at - lowest) ls l high e no_others ∙ ap (λ n. marks_from lowest ls ++ mark_of n l ∷ []) there in
    let only : marks_from lowest (set ls (at - lowest) l) ≡ mark_of at l ∷ [] = one ∙ ap (λ ms. ms ++ mark_of at l ∷ []) none in
    record {
      linked = closed lowest _ _ (record {
        ends = subst (λ ns. AreEnds ns (record { oldest = at; newest = at })) (sym only) (omega arith, refl, refl);
        chain = λ k h. absurd (let z = ap length only in omega (arith, h, z));
      });
      marks = one;
    }

-- one after others
pub later_added : (lowest at : ℕ) (ls : List Link) (l la : Link) (e : Ends) → AreChained lowest ls e → All (λ m. m.at < at) (marks_from lowest ls) → lowest ≤ at → at - lowest < length ls → l.marked ≡ true → l.older ≡ e.newest →
    la ≡ with_newer (get_or (set ls (at - lowest) l) (e.newest - lowest) bare) at →
    IsAdded lowest ls (set (set ls (at - lowest) l) (e.newest - lowest) la) (Some (record { oldest = e.oldest; newest = at })) (mark_of at l)
later_added lowest at ls l la e s under low high u lo ela =
    let ms : List Mark = marks_from lowest ls in
    let first : List Link = set ls (at - lowest) l in
    let second : List Link = set first (e.newest - lowest) la in
    let last : length ms - 1 < length ms = omega (arith, s.ends.0) in
    let there : lowest + (at - lowest) ≡ at = omega (arith, low) in
    let same : marks_from lowest second ≡ ms ++ mark_of at l ∷ [] =
    same_marks lowest (e.newest - lowest) first la (ap (λ (z : Link). z.marked) ela) (ap (mark_of 0) ela)
    ∙ marked_above lowest (at - lowest) ls l high u (λ k d h. let r = under k d h in omega (arith, r, there))
    ∙ ap (λ n. ms ++ mark_of n l ∷ []) there in
    let stood : Stands lowest ls (nth ms (length ms - 1)) = stands lowest ls (length ms - 1) last in
    let aside : (k : ℕ) → k < length ms → (nth ms k).at - lowest ≡ at - lowest → ⊥ = λ k h z. let r = under k no_mark h in let t = (stands lowest ls k h).low in omega (arith, r, t, z, low) in
    let size : length first ≡ length ls = length-set ls (at - lowest) l in
    let newer_same : (k : ℕ) → suc k < length ms → newer_at lowest second (nth ms k).at ≡ newer_at lowest ls (nth ms k).at = λ k h.
    ap (λ (z : Link). z.newer) (get_or-set_other first (e.newest - lowest) ((nth ms k).at - lowest) la bare (λ z. let r = rises lowest (lowest + length ls) ms (rising lowest ls) k (length ms - 1) no_mark no_mark (omega (arith, h)) last in let t = (stands lowest ls k (omega (arith, h))).low in omega (arith, z, r, t, s.ends.2)))
    ∙ ap (λ (z : Link). z.newer) (get_or-set_other ls (at - lowest) ((nth ms k).at - lowest) l bare (aside k (omega (arith, h)))) in
    let older_same : (k : ℕ) → k < length ms → older_at lowest second (nth ms k).at ≡ older_at lowest ls (nth ms k).at = λ k h.
    kept_field (λ z. z.older) first (e.newest - lowest) ((nth ms k).at - lowest) la (ap (λ (z : Link). z.older) ela)
    ∙ ap (λ (z : Link). z.older) (get_or-set_other ls (at - lowest) ((nth ms k).at - lowest) l bare (aside k h)) in
    let newer_new : newer_at lowest second (nth ms (length ms - 1)).at ≡ at =
    ap (newer_at lowest second) (sym s.ends.2)
    ∙ ap (λ (z : Link). z.newer) (get_or-set_same first (e.newest - lowest) la bare (omega (arith, stood.high, s.ends.2, size)))
    ∙ ap (λ (z : Link). z.newer) ela in
    let older_new : older_at lowest second at ≡ (nth ms (length ms - 1)).at =
    kept_field (λ z. z.older) first (e.newest - lowest) (at - lowest) la (ap (λ (z : Link). z.older) ela)
    ∙ ap (λ (z : Link). z.older) (get_or-set_same ls (at - lowest) l bare high)
    ∙ lo ∙ s.ends.2 in
    record {
      linked = closed lowest _ _ (record {
        ends = subst (λ ns. AreEnds ns (record { oldest = e.oldest; newest = at })) (sym same) (outer ms (mark_of at l) e s.ends);
        chain = subst (IsChain (newer_at lowest second) (older_at lowest second)) (sym same) (chain_added (newer_at lowest ls) (newer_at lowest second) (older_at lowest ls) (older_at lowest second) ms (mark_of at l) s.chain newer_same older_same (λ _. (newer_new, older_new)));
      });
      marks = same;
    }
  where
    outer : (ms : List Mark) (m : Mark) (o : Ends) → AreEnds ms o → AreEnds (ms ++ m ∷ []) (record { oldest = o.oldest; newest = m.at })
    outer ms m o a =
        let size : length (ms ++ m ∷ []) ≡ length ms + 1 = length-append ms (m ∷ []) in
        let end : length (ms ++ m ∷ []) - 1 ≡ length ms = omega (arith, size) in (
          omega (arith, size),
          a.1 ∙ sym (ap (λ (z : Mark). z.at) (get_or_append_left ms (m ∷ []) no_mark 0 a.0)),
          sym (ap (λ (z : Mark). z.at) (ap (nth (ms ++ m ∷ [])) end ∙ get_or-append_seam ms m [] no_mark)),
        )

-- the cell that the stack holds as its newest
pub newest_stands : (lowest : ℕ) (ls : List Link) (e : Ends) → AreChained lowest ls e → (lowest ≤ e.newest) × (e.newest - lowest < length ls)
newest_stands lowest ls e s =
    let t : Stands lowest ls (nth (marks_from lowest ls) (length (marks_from lowest ls) - 1)) = stands lowest ls (length (marks_from lowest ls) - 1) (omega (arith, s.ends.0)) in
    (omega (arith, t.low, s.ends.2), omega (arith, t.high, s.ends.2))
