-- The numbers of a row, one more at a time, and what is kept where memory is wanting.
use Rattle.std.proofs.Common.{◌≡◌, ℕ, zero, suc, ◌+◌, ◌<◌, ◌≤◌, ℤ, pos, cond, eqb, List, [], ◌∷◌}
use Rattle.std.proofs.Common.{◌++◌, length, get_or, take, map, refl, sym, ap, ◌∙◌, append_assoc}
use Rattle.std.proofs.Common.{arith}
use Rattle.std.proofs.Math.Dec.{eqb-suc-zero}
use Rattle.std.specs.List.{join_with_byte}
use Rattle.std.proofs.lemmas.List.{map_more, length-append, take-take}
use Rattle.std.proofs.Math.Seq.{take-append_seam}

-- one part more behind others
join-push : (part : List ℕ) (parts : List (List ℕ)) (last : List ℕ) →
    join_with_byte 32 ((part ∷ parts) ++ last ∷ []) ≡ join_with_byte 32 (part ∷ parts) ++ (32 ∷ last)
join-push part [] last = refl
join-push part (next ∷ parts) last =
    ap (λ rest. part ++ (32 ∷ rest)) (join-push next parts last)
    ∙ sym (append_assoc part (32 ∷ join_with_byte 32 (next ∷ parts)) (32 ∷ last))

-- one number more of a row
join_take_more : (f : ℤ → List ℕ) (row : List ℤ) (i : ℕ) → i < length row →
    join_with_byte 32 (map f (take (i + 1) row))
    ≡ join_with_byte 32 (map f (take i row)) ++ (cond (eqb i 0) [] (32 ∷ []) ++ f (get_or row i (pos 0)))
join_take_more f row zero within = ap (join_with_byte 32) (map_more f row 0 (pos 0) within)
join_take_more f [] (suc i) within = elim within [ ]
join_take_more f (n ∷ row) (suc i) within =
    ap (join_with_byte 32) (map_more f (n ∷ row) (suc i) (pos 0) within)
    ∙ join-push (f n) (map f (take i row)) (f (get_or row i (pos 0)))
    ∙ ap (λ t. join_with_byte 32 (f n ∷ map f (take i row)) ++ (cond t [] (32 ∷ []) ++ f (get_or row i (pos 0)))) (sym (eqb-suc-zero i))

pub line_more : (f : ℤ → List ℕ) (row : List ℤ) (i : ℕ) (bs out : List ℕ) → i < length row →
    out ≡ bs ++ join_with_byte 32 (map f (take i row)) →
    out ++ (cond (eqb i 0) [] (32 ∷ []) ++ f (get_or row i (pos 0))) ≡ bs ++ join_with_byte 32 (map f (take (i + 1) row))
line_more f row i bs out within is =
    ap (λ k. k ++ (cond (eqb i 0) [] (32 ∷ []) ++ f (get_or row i (pos 0)))) is
    ∙ append_assoc bs (join_with_byte 32 (map f (take i row))) (cond (eqb i 0) [] (32 ∷ []) ++ f (get_or row i (pos 0)))
    ∙ ap (λ k. bs ++ k) (sym (join_take_more f row i within))

-- what begins with a list that begins with another begins with that one
pub take_kept : (bs more mid all : List ℕ) → mid ≡ bs ++ more → take (length mid) all ≡ mid → take (length bs) all ≡ bs
take_kept bs more mid all is kept =
    let shorter : length bs ≤ length mid = omega (arith, ap length is, length-append bs more) in
    sym (take-take (length bs) (length mid) all shorter) ∙ ap (take (length bs)) (kept ∙ is) ∙ take-append_seam bs more
