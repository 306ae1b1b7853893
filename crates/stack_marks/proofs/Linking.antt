-- How a change of one link changes the marks and their chain.
use Rattle.std.proofs.Common.{◌≡◌, ℕ, zero, suc, ◌+◌, ◌-◌, ◌<◌, ◌≤◌, inl, inr, Bool, true, false}
use Rattle.std.proofs.Common.{cond, List, [], ◌∷◌, ◌++◌, length, get_or, set, replicate, refl, sym}
use Rattle.std.proofs.Common.{◌∙◌, ap, subst, arith}
use Rattle.std.proofs.lemmas.Bool.{cases_lt}
use Rattle.std.proofs.lemmas.List.{get_or_append_left}
use Rattle.std.proofs.Math.Seq.{get_or-append_seam}
use Rattle.std.proofs.Common.{length-append}
use Rattle.std.proofs.lemmas.List.Edits.{length-remove, get_or-remove_below, get_or-remove_above}
use Rattle.std.specs.List.{remove}
use Rattle.stack_marks.specs.declared.mark.Mark.{Mark}
use Rattle.stack_marks.specs.declared.links.Link.{Link}
use Rattle.stack_marks.specs.Stacks.{InOrder}
use Rattle.stack_marks.specs.Linked.{mark_of, marks_from, bare, link_at}
use Rattle.stack_marks.proofs.Rising.{widen}

abbrev pub no_mark : Mark
no_mark = record { at = 0; base = 0; cells = 0; split = 0 }

-- the mark at a place of a list, where there is one
abbrev pub nth : List Mark → ℕ → Mark
nth marks k = get_or marks k no_mark

-- the cells of two marks that follow one another name each other
abbrev pub IsChain : (newer older : ℕ → ℕ) → List Mark → Type 0
IsChain newer older marks = (k : ℕ) → suc k < length marks → (newer (nth marks k).at ≡ (nth marks (suc k)).at) × (older (nth marks (suc k)).at ≡ (nth marks k).at)

-- the positions of the marks rise
pub rising : (at : ℕ) (ls : List Link) → InOrder at (at + length ls) (marks_from at ls)
rising at [] = tt
rising at (l ∷ ls) = go (rising (suc at) ls) l.marked
  where
    go : InOrder (suc at) (suc at + length ls) (marks_from (suc at) ls) → (b : Bool) → InOrder at (at + suc (length ls)) (cond b (mark_of at l ∷ marks_from (suc at) ls) (marks_from (suc at) ls))
    go r true = (omega arith, omega arith, widen (suc at) (suc at) (suc at + length ls) (at + suc (length ls)) (marks_from (suc at) ls) (omega arith) (omega arith) r)
    go r false = widen (suc at) at (suc at + length ls) (at + suc (length ls)) (marks_from (suc at) ls) (omega arith) (omega arith) r

-- a mark stands on a cell, and the cell's link tells the rest of it
pub record Stands (at : ℕ) (ls : List Link) (m : Mark) : Type 0 where
  pub low : at ≤ m.at
  pub high : m.at - at < length ls
  pub marked : (link_at at ls m.at).marked ≡ true
  pub same : m ≡ mark_of m.at (link_at at ls m.at)

later : (at p : ℕ) (l : Link) (ls : List Link) → suc at ≤ p → link_at at (l ∷ ls) p ≡ link_at (suc at) ls p
later at p l ls h = let e : p - at ≡ suc (p - suc at) = omega (arith, h) in ap (λ n. get_or (l ∷ ls) n bare) e

here : (at : ℕ) (l : Link) (ls : List Link) → link_at at (l ∷ ls) at ≡ l
here at l ls = let z : at - at ≡ 0 = omega arith in ap (λ n. get_or (l ∷ ls) n bare) z

stands_later : (at : ℕ) (l : Link) (ls : List Link) (m : Mark) → Stands (suc at) ls m → Stands at (l ∷ ls) m
stands_later at l ls m s = record {
  low = omega (arith, s.low);
  high = omega (arith, s.high, s.low);
  marked = ap (λ (z : Link). z.marked) (later at m.at l ls s.low) ∙ s.marked;
  same = s.same ∙ ap (mark_of m.at) (sym (later at m.at l ls s.low));
}

pub stands : (at : ℕ) (ls : List Link) (k : ℕ) → k < length (marks_from at ls) → Stands at ls (nth (marks_from at ls) k)
stands at [] k h = absurd (omega (arith, h))
stands at (l ∷ ls) k h = go (stands (suc at) ls) l.marked k refl h
  where
    go : ((i : ℕ) → i < length (marks_from (suc at) ls) → Stands (suc at) ls (nth (marks_from (suc at) ls) i)) → (b : Bool) (n : ℕ) → l.marked ≡ b → n < length (cond b (mark_of at l ∷ marks_from (suc at) ls) (marks_from (suc at) ls)) → Stands at (l ∷ ls) (nth (cond b (mark_of at l ∷ marks_from (suc at) ls) (marks_from (suc at) ls)) n)
    go r true zero e q = record {
      low = omega arith;
      high = omega arith;
      marked = ap (λ (z : Link). z.marked) (here at l ls) ∙ e;
      same = ap (mark_of at) (sym (here at l ls));
    }
    go r true (suc n) e q = stands_later at l ls (nth (marks_from (suc at) ls) n) (r n (omega (arith, q)))
    go r false n e q = stands_later at l ls (nth (marks_from (suc at) ls) n) (r n q)

-- the place of the mark of a marked cell, and what is left without it
pub record Place (at i : ℕ) (ls : List Link) : Type 0 where
  pub k : ℕ
  pub within : k < length (marks_from at ls)
  pub there : (nth (marks_from at ls) k).at ≡ at + i
  pub gone : (l : Link) → l.marked ≡ false → marks_from at (set ls i l) ≡ remove (marks_from at ls) k

pub place : (at i : ℕ) (ls : List Link) → i < length ls → (get_or ls i bare).marked ≡ true → Place at i ls
place at i [] h e = absurd (omega (arith, h))
place at zero (l ∷ ls) h e =
    let rest : List Mark = marks_from (suc at) ls in
    let whole : marks_from at (l ∷ ls) ≡ mark_of at l ∷ rest = ap (λ b. cond b (mark_of at l ∷ rest) rest) e in
    record {
      k = 0;
      within = subst (λ ms. 0 < length ms) (sym whole) (omega arith);
      there = ap (λ ms. (nth ms 0).at) whole ∙ omega arith;
      gone = λ x q. ap (λ b. cond b (mark_of at x ∷ rest) rest) q ∙ sym (ap (λ ms. remove ms 0) whole);
    }
place at (suc i) (l ∷ ls) h e = go (place (suc at) i ls (omega (arith, h)) e) l.marked refl
  where
    rest : List Mark
    rest = marks_from (suc at) ls

    changed : Link → List Mark
    changed x = marks_from (suc at) (set ls i x)

    go : Place (suc at) i ls → (b : Bool) → l.marked ≡ b → Place at (suc i) (l ∷ ls)
    go lower true q =
        let whole : marks_from at (l ∷ ls) ≡ mark_of at l ∷ rest = ap (λ b. cond b (mark_of at l ∷ rest) rest) q in
        record {
          k = suc lower.k;
          within = subst (λ ms. suc lower.k < length ms) (sym whole) (omega (arith, lower.within));
          there = ap (λ ms. (nth ms (suc lower.k)).at) whole ∙ omega (arith, lower.there);
          gone = λ x z. ap (λ b. cond b (mark_of at l ∷ changed x) (changed x)) q ∙ ap (λ ms. mark_of at l ∷ ms) (lower.gone x z) ∙ sym (ap (λ ms. remove ms (suc lower.k)) whole);
        }
    go lower false q =
        let whole : marks_from at (l ∷ ls) ≡ rest = ap (λ b. cond b (mark_of at l ∷ rest) rest) q in
        record {
          k = lower.k;
          within = subst (λ ms. lower.k < length ms) (sym whole) lower.within;
          there = ap (λ ms. (nth ms lower.k).at) whole ∙ omega (arith, lower.there);
          gone = λ x z. ap (λ b. cond b (mark_of at l ∷ changed x) (changed x)) q ∙ lower.gone x z ∙ sym (ap (λ ms. remove ms lower.k) whole);
        }

-- a mark is told apart by its cell's link alone
pub same_marks : (at i : ℕ) (ls : List Link) (l : Link) → l.marked ≡ (get_or ls i bare).marked → mark_of 0 l ≡ mark_of 0 (get_or ls i bare) → marks_from at (set ls i l) ≡ marks_from at ls
same_marks at i [] l e m = refl
same_marks at zero (x ∷ ls) l e m =
    (λ t. cond (e t) (record { at = at; base = (m t).base; cells = (m t).cells; split = (m t).split } ∷ marks_from (suc at) ls) (marks_from (suc at) ls))
same_marks at (suc i) (x ∷ ls) l e m = ap (λ ms. cond x.marked (mark_of at x ∷ ms) ms) (same_marks (suc at) i ls l e m)

-- cells that were never marked
pub padded : (at n : ℕ) (ls : List Link) → marks_from at (ls ++ replicate n bare) ≡ marks_from at ls
padded at zero [] = refl
padded at (suc n) [] = padded (suc at) n []
padded at n (l ∷ ls) = ap (λ ms. cond l.marked (mark_of at l ∷ ms) ms) (padded (suc at) n ls)

none_left : (low high x : ℕ) (ms : List Mark) → InOrder low high ms → x ≤ low → ((k : ℕ) (d : Mark) → k < length ms → (get_or ms k d).at < x) → ms ≡ []
none_left low high x [] o h f = refl
none_left low high x (m ∷ ms) o h f = absurd (let r = f zero m (omega arith) in omega (arith, r, o.0, h))

-- a cell marked above all others
pub marked_above : (at i : ℕ) (ls : List Link) (l : Link) → i < length ls → l.marked ≡ true → ((k : ℕ) (d : Mark) → k < length (marks_from at ls) → (get_or (marks_from at ls) k d).at < at + i) → marks_from at (set ls i l) ≡ marks_from at ls ++ mark_of (at + i) l ∷ []
marked_above at i [] l h e f = absurd (omega (arith, h))
marked_above at zero (x ∷ ls) l h e f =
    let rest : List Mark = marks_from (suc at) ls in
    let empty : marks_from at (x ∷ ls) ≡ [] = none_left at (at + length (x ∷ ls)) (at + 0) (marks_from at (x ∷ ls)) (rising at (x ∷ ls)) (omega arith) f in
    let same : at ≡ at + 0 = omega arith in
    ap (λ b. cond b (mark_of at l ∷ rest) rest) e
    ∙ ap (λ ms. mark_of at l ∷ ms) (tail x.marked empty)
    ∙ ap (λ n. mark_of n l ∷ []) same
    ∙ ap (λ ms. ms ++ mark_of (at + 0) l ∷ []) (sym empty)
  where
    tail : (b : Bool) → cond b (mark_of at x ∷ marks_from (suc at) ls) (marks_from (suc at) ls) ≡ [] → marks_from (suc at) ls ≡ []
    tail true q = absurd (let n = ap length q in omega (arith, n))
    tail false q = q
marked_above at (suc i) (x ∷ ls) l h e f = go (marked_above (suc at) i ls l (omega (arith, h)) e) x.marked refl
  where
    rest : List Mark
    rest = marks_from (suc at) ls

    changed : List Mark
    changed = marks_from (suc at) (set ls i l)

    Below : List Mark → Type 0
    Below ms = (k : ℕ) (d : Mark) → k < length ms → (get_or ms k d).at < at + suc i

    shifted : suc at + i ≡ at + suc i
    shifted = omega arith

    go : (((k : ℕ) (d : Mark) → k < length rest → (get_or rest k d).at < suc at + i) → changed ≡ rest ++ mark_of (suc at + i) l ∷ []) → (b : Bool) → x.marked ≡ b → cond b (mark_of at x ∷ changed) changed ≡ cond b (mark_of at x ∷ rest) rest ++ mark_of (at + suc i) l ∷ []
    go r true q =
        let below : Below (mark_of at x ∷ rest) = subst Below (ap (λ b. cond b (mark_of at x ∷ rest) rest) q) f in
        ap (λ ms. mark_of at x ∷ ms) (r (λ k d z. let b = below (suc k) d (omega (arith, z)) in omega (arith, b)) ∙ ap (λ n. rest ++ mark_of n l ∷ []) shifted)
    go r false q =
        let below : Below rest = subst Below (ap (λ b. cond b (mark_of at x ∷ rest) rest) q) f in
        r (λ k d z. let b = below k d z in omega (arith, b)) ∙ ap (λ n. rest ++ mark_of n l ∷ []) shifted

-- the chain without one of its marks, where the cells of its neighbours name each other
pub chain_without : (nw nw' ol ol' : ℕ → ℕ) (k : ℕ) (ms : List Mark) → k < length ms → IsChain nw ol ms →
    ((i : ℕ) → i < length ms → (suc i ≡ k → ⊥) → nw' (nth ms i).at ≡ nw (nth ms i).at) →
    ((i : ℕ) → i < length ms → (i ≡ suc k → ⊥) → ol' (nth ms i).at ≡ ol (nth ms i).at) →
    ((i : ℕ) → suc i ≡ k → suc k < length ms → (nw' (nth ms i).at ≡ (nth ms (suc k)).at) × (ol' (nth ms (suc k)).at ≡ (nth ms i).at)) →
    IsChain nw' ol' (remove ms k)
chain_without nw nw' ol ol' k ms h c f g m j q =
    elim (cases_lt (suc j) k) [
      | inl a ↦ link j (suc j) (below j (omega (arith, a))) (below (suc j) a) (f j (omega (arith, a, h)) (λ e. omega (arith, e, a)) ∙ (c j (omega (arith, a, h))).0) (g (suc j) (omega (arith, a, h)) (λ e. omega (arith, e, a)) ∙ (c j (omega (arith, a, h))).1)
      | inr a ↦ elim (cases_lt j k) [
        | inl b ↦ let w = m j (omega (arith, a, b)) (omega (arith, size, q, a, b)) in
            let next : suc k ≡ suc (suc j) = omega (arith, a, b) in
            link j (suc (suc j)) (below j b) (above (suc j) a) (w.0 ∙ ap (λ n. (nth ms n).at) next) (ap (λ n. ol' (nth ms n).at) (sym next) ∙ w.1)
        | inr b ↦ link (suc j) (suc (suc j)) (above j b) (above (suc j) a) (f (suc j) (omega (arith, q, size)) (λ e. omega (arith, e, b)) ∙ (c (suc j) (omega (arith, q, size))).0) (g (suc (suc j)) (omega (arith, q, size)) (λ e. omega (arith, e, b)) ∙ (c (suc j) (omega (arith, q, size))).1)
      ]
    ]
  where
    size : length (remove ms k) + 1 ≡ length ms
    size = length-remove ms k h

    below : (i : ℕ) → i < k → nth (remove ms k) i ≡ nth ms i
    below i z = get_or-remove_below ms k no_mark i z h

    above : (i : ℕ) → k ≤ i → nth (remove ms k) i ≡ nth ms (suc i)
    above i z = let e : i + 1 ≡ suc i = omega arith in get_or-remove_above ms k no_mark i z h ∙ ap (nth ms) e

    link : (a b : ℕ) → nth (remove ms k) j ≡ nth ms a → nth (remove ms k) (suc j) ≡ nth ms b → nw' (nth ms a).at ≡ (nth ms b).at → ol' (nth ms b).at ≡ (nth ms a).at → (nw' (nth (remove ms k) j).at ≡ (nth (remove ms k) (suc j)).at) × (ol' (nth (remove ms k) (suc j)).at ≡ (nth (remove ms k) j).at)
    link a b x y u v = (ap (λ z. nw' z.at) x ∙ u ∙ sym (ap (λ z. z.at) y), ap (λ z. ol' z.at) y ∙ v ∙ sym (ap (λ z. z.at) x))

-- the chain with one more mark, where the cells of the newest so far and the new one name each other
pub chain_added : (nw nw' ol ol' : ℕ → ℕ) (ms : List Mark) (m : Mark) → IsChain nw ol ms →
    ((i : ℕ) → suc i < length ms → nw' (nth ms i).at ≡ nw (nth ms i).at) →
    ((i : ℕ) → i < length ms → ol' (nth ms i).at ≡ ol (nth ms i).at) →
    (0 < length ms → (nw' (nth ms (length ms - 1)).at ≡ m.at) × (ol' m.at ≡ (nth ms (length ms - 1)).at)) →
    IsChain nw' ol' (ms ++ m ∷ [])
chain_added nw nw' ol ol' ms m c f g n j q =
    elim (cases_lt (suc j) (length ms)) [
      | inl a ↦ link (nth ms j) (nth ms (suc j)) (old j (omega (arith, a))) (old (suc j) a) (f j a ∙ (c j a).0) (g (suc j) a ∙ (c j a).1)
      | inr a ↦
          let size : length (ms ++ m ∷ []) ≡ length ms + 1 = length-append ms (m ∷ []) in
          let last : suc j ≡ length ms = omega (arith, q, size, a) in
          let w = n (omega (arith, last)) in
          let before : length ms - 1 ≡ j = omega (arith, last) in
          link (nth ms j) m (old j (omega (arith, last))) (ap (nth (ms ++ m ∷ [])) last ∙ get_or-append_seam ms m [] no_mark) (subst (λ i. nw' (nth ms i).at ≡ m.at) before w.0) (subst (λ i. ol' m.at ≡ (nth ms i).at) before w.1)
    ]
  where
    old : (i : ℕ) → i < length ms → nth (ms ++ m ∷ []) i ≡ nth ms i
    old i z = get_or_append_left ms (m ∷ []) no_mark i z

    link : (a b : Mark) → nth (ms ++ m ∷ []) j ≡ a → nth (ms ++ m ∷ []) (suc j) ≡ b → nw' a.at ≡ b.at → ol' b.at ≡ a.at → (nw' (nth (ms ++ m ∷ []) j).at ≡ (nth (ms ++ m ∷ []) (suc j)).at) × (ol' (nth (ms ++ m ∷ []) (suc j)).at ≡ (nth (ms ++ m ∷ []) j).at)
    link a b x y u v = (ap (λ (z : Mark). nw' z.at) x ∙ u ∙ sym (ap (λ (z : Mark). z.at) y), ap (λ (z : Mark). ol' z.at) y ∙ v ∙ sym (ap (λ (z : Mark). z.at) x))
