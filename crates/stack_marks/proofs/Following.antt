-- Following the links passes the marks where each names its neighbours, and the other way round.
use Rattle.std.proofs.Common.{◌≡◌, ℕ, zero, suc, ◌-◌, ◌<◌, List, [], ◌∷◌, length, reverse, refl}
use Rattle.std.proofs.Common.{sym, ◌∙◌, ap, subst, arith}
use Rattle.std.proofs.lemmas.List.{get_or-reverse, length-reverse}
use Rattle.stack_marks.specs.declared.mark.Mark.{Mark}
use Rattle.stack_marks.specs.declared.links.Link.{Link}
use Rattle.stack_marks.specs.declared.links.Ends.{Ends}
use Rattle.stack_marks.specs.Linked.{mark_of, marks_from, link_at, newer_at, older_at, followed}
use Rattle.stack_marks.specs.Linked.{PassAll}
use Rattle.stack_marks.proofs.Linking.{no_mark, nth, IsChain, stands}

-- the oldest and the newest mark stand where the ends say
abbrev pub AreEnds : List Mark → Ends → Type 0
AreEnds marks ends = (0 < length marks) × (ends.oldest ≡ (nth marks 0).at) × (ends.newest ≡ (nth marks (length marks - 1)).at)

-- the marks of the links are a chain between the two ends
pub record AreChained (lowest : ℕ) (links : List Link) (outer : Ends) : Type 0 where
  pub ends : AreEnds (marks_from lowest links) outer
  pub chain : IsChain (newer_at lowest links) (older_at lowest links) (marks_from lowest links)

-- each next mark of a list stands where the last one's link says
record IsPath (next : ℕ → ℕ) (at : ℕ) (ms : List Mark) : Type 0 where
  pub first : 0 < length ms → at ≡ (nth ms 0).at
  pub steps : (k : ℕ) → suc k < length ms → next (nth ms k).at ≡ (nth ms (suc k)).at

-- following the links along a path passes its marks
along : (lowest : ℕ) (links : List Link) (next : ℕ → ℕ) (at : ℕ) (ms : List Mark) → IsPath next at ms → ((k : ℕ) → k < length ms → nth ms k ≡ mark_of (nth ms k).at (link_at lowest links (nth ms k).at)) → followed lowest links next (length ms) at ≡ ms
along lowest links next at [] p f = refl
along lowest links next at (m ∷ ms) p f =
    let here : at ≡ m.at = p.first (omega arith) in
    let rest : followed lowest links next (length ms) (next at) ≡ ms = along lowest links next (next at) ms (record {
      first = λ h. ap next here ∙ p.steps 0 (omega (arith, h));
      steps = λ k h. p.steps (suc k) (omega (arith, h));
    }) (λ k h. f (suc k) (omega (arith, h))) in
    ap (λ n. mark_of n (link_at lowest links n) ∷ followed lowest links next (length ms) (next at)) here
    ∙ ap (λ z. z ∷ followed lowest links next (length ms) (next at)) (sym (f 0 (omega arith)))
    ∙ ap (λ ns. m ∷ ns) rest

at_first : List Mark → ℕ
at_first [] = 0
at_first (m ∷ ms) = m.at

behind : List Mark → List Mark
behind [] = []
behind (m ∷ ms) = ms

-- what is passed by following the links is a path
path : (lowest : ℕ) (links : List Link) (next : ℕ → ℕ) (at : ℕ) (ms : List Mark) → followed lowest links next (length ms) at ≡ ms → IsPath next at ms
unfolding at_first behind
path lowest links next at [] e = record { first = λ h. absurd (omega (arith, h)); steps = λ k h. absurd (omega (arith, h)) }
path lowest links next at (m ∷ ms) e =
    let here : at ≡ m.at = ap at_first e in
    let rest : IsPath next (next at) ms = path lowest links next (next at) ms (ap behind e) in
    record {
      first = λ _. here;
      steps = step here rest;
    }
  where
    step : at ≡ m.at → IsPath next (next at) ms → (k : ℕ) → suc k < length (m ∷ ms) → next (nth (m ∷ ms) k).at ≡ (nth (m ∷ ms) (suc k)).at
    step here rest zero h = ap next (sym here) ∙ rest.first (omega (arith, h))
    step here rest (suc k) h = rest.steps k (omega (arith, h))

turned : (ms : List Mark) (k : ℕ) → k < length ms → nth (reverse ms) k ≡ nth ms (length ms - 1 - k)
turned ms k h = get_or-reverse ms k no_mark h

pub closed : (lowest : ℕ) (links : List Link) (outer : Ends) → AreChained lowest links outer → PassAll lowest links outer
closed lowest links outer c =
    let ms : List Mark = marks_from lowest links in
    let size : length (reverse ms) ≡ length ms = length-reverse ms in
    let last : length ms - 1 - 0 ≡ length ms - 1 = omega arith in
    let told : (k : ℕ) → k < length ms → nth ms k ≡ mark_of (nth ms k).at (link_at lowest links (nth ms k).at) = λ k h. (stands lowest links k h).same in
    record {
      some = c.ends.0;
      onward = along lowest links (newer_at lowest links) outer.oldest ms (record { first = λ _. c.ends.1; steps = λ k h. (c.chain k h).0 }) told;
      backward = ap (λ n. followed lowest links (older_at lowest links) n outer.newest) (sym size) ∙ along lowest links (older_at lowest links) outer.newest (reverse ms) (record {
        first = λ h. c.ends.2 ∙ ap (λ (m : Mark). m.at) (sym (turned ms 0 (omega (arith, h, size)) ∙ ap (nth ms) last));
        steps = λ k h.
            let j : length ms - 1 - k ≡ suc (length ms - 1 - suc k) = omega (arith, h, size) in
            ap (λ (m : Mark). older_at lowest links m.at) (turned ms k (omega (arith, h, size)) ∙ ap (nth ms) j)
            ∙ (c.chain (length ms - 1 - suc k) (omega (arith, h, size))).1
            ∙ ap (λ (m : Mark). m.at) (sym (turned ms (suc k) (omega (arith, h, size))));
      }) (λ k h. subst (λ m. m ≡ mark_of m.at (link_at lowest links m.at)) (sym (turned ms k (omega (arith, h, size)))) (told (length ms - 1 - k) (omega (arith, h, size))));
    }

pub opened : (lowest : ℕ) (links : List Link) (outer : Ends) → PassAll lowest links outer → AreChained lowest links outer
opened lowest links outer a =
    let ms : List Mark = marks_from lowest links in
    let size : length (reverse ms) ≡ length ms = length-reverse ms in
    let on : IsPath (newer_at lowest links) outer.oldest ms = path lowest links (newer_at lowest links) outer.oldest ms a.onward in
    let back : IsPath (older_at lowest links) outer.newest (reverse ms) = path lowest links (older_at lowest links) outer.newest (reverse ms) (ap (λ n. followed lowest links (older_at lowest links) n outer.newest) size ∙ a.backward) in
    let last : length ms - 1 - 0 ≡ length ms - 1 = omega arith in
    record {
      ends = (a.some, on.first a.some, back.first (omega (arith, a.some, size)) ∙ ap (λ (m : Mark). m.at) (turned ms 0 a.some ∙ ap (nth ms) last));
      chain = λ k h.
          let j : ℕ = length ms - 2 - k in
          let newer : length ms - 1 - j ≡ suc k = omega (arith, h) in
          let older : length ms - 1 - suc j ≡ k = omega (arith, h) in (
            on.steps k h,
            ap (λ (m : Mark). older_at lowest links m.at) (sym (turned ms j (omega (arith, h)) ∙ ap (nth ms) newer))
                ∙ back.steps j (omega (arith, h, size))
                ∙ ap (λ (m : Mark). m.at) (turned ms (suc j) (omega (arith, h)) ∙ ap (nth ms) older),
          );
    }
