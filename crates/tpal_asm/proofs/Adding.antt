-- A name that is added.
use Rattle.std.proofs.Common.{◌≡◌, ℕ, ◌+◌, ◌<◌, ◌≤◌, Bool, true, false, cond, ◌&&◌, ◌||◌, List, []}
use Rattle.std.proofs.Common.{◌∷◌, ◌++◌, length, map, suc, Result, Ok, Err, Option, Bor, refl, sym}
use Rattle.std.proofs.Common.{ap, ◌∙◌, append-nil, arith}
use Rattle.std.specs.Prelude.{bytes_eq, OnOk, OnErr, IfOk, is_some}
use Rattle.std.specs.List.{list_all}
use Rattle.std.proofs.lemmas.Bool.{lt-ltb, le-ltb}
use Rattle.std.proofs.lemmas.List.Folds.{list_all-append}
use Rattle.std.proofs.lemmas.List.{map-append}
use Rattle.tpal_syntax.specs.Parts.{is_word}
use Rattle.indexmap.specs.IndexMap.{insert_entry}
use Rattle.tpal_asm.specs.Labels.{Head, names_of, place_of, with_head}
use Rattle.tpal_asm.specs.Drafts.{is_among}
use Rattle.tpal_asm.proofs.Outside.{among_place}

abbrev pub view : Bor (List ℕ) × Bool → Head
view e = (e.0.now, e.1)

abbrev same_name : Bor (List ℕ) → Bor (List ℕ) → Bool
same_name a b = bytes_eq a.now b.now

-- a new name goes last
pub new_last : (k : Bor (List ℕ)) (v : Bool) (es : List (Bor (List ℕ) × Bool)) → is_among k.now (names_of (map view es)) ≡ false → map view (insert_entry same_name es k v) ≡ map view es ++ (k.now, v) ∷ []
new_last k v [] new = refl
new_last k v (e ∷ es) new = go (bytes_eq k.now e.0.now) new (new_last k v es)
  where
    go : (b : Bool) → (b || is_among k.now (names_of (map view es))) ≡ false → (is_among k.now (names_of (map view es)) ≡ false → map view (insert_entry same_name es k v) ≡ map view es ++ (k.now, v) ∷ [])
        → map view (cond b ((e.0, v) ∷ es) (e ∷ insert_entry same_name es k v)) ≡ view e ∷ (map view es ++ (k.now, v) ∷ [])
    go true new rest = absurd cc
    go false new rest = ap (λ (hs : List Head). view e ∷ hs) (rest new)

pub unknown : (hs : List Head) (name : List ℕ) → length (names_of hs) ≤ place_of hs name → is_among name (names_of hs) ≡ false
unknown hs name le = sym (among_place name hs (names_of hs) [] (sym (append-nil (names_of hs)))) ∙ le-ltb (place_of hs name) (length (names_of hs)) le

pub known : (hs : List Head) (name : List ℕ) → place_of hs name < length (names_of hs) → is_among name (names_of hs) ≡ true
known hs name lt = sym (among_place name hs (names_of hs) [] (sym (append-nil (names_of hs)))) ∙ lt-ltb (place_of hs name) (length (names_of hs)) lt

pub with_known : (hs : List Head) (name : List ℕ) (ready : Bool) → place_of hs name < length (names_of hs) → hs ≡ with_head hs (name, ready)
with_known hs name ready lt = ap (λ (b : Bool). cond b hs (hs ++ (name, ready) ∷ [])) (sym (known hs name lt))

pub with_new : (k : Bor (List ℕ)) (v : Bool) (es fs : List (Bor (List ℕ) × Bool)) → length (names_of (map view es)) ≤ place_of (map view es) k.now → fs ≡ insert_entry same_name es k v
    → map view fs ≡ with_head (map view es) (k.now, v)
with_new k v es fs le is =
    let new = unknown (map view es) k.now le in
    ap (map view) is ∙ new_last k v es new ∙ ap (λ (b : Bool). cond b (map view es) (map view es ++ (k.now, v) ∷ [])) (sym new)

words_new : (hs : List Head) (name : List ℕ) (ready : Bool) → list_all is_word (names_of hs) ≡ true → is_word name ≡ true → list_all is_word (names_of (hs ++ (name, ready) ∷ [])) ≡ true
words_new hs name ready words word =
    ap (list_all is_word) (map-append (λ (h : Head). h.0) hs ((name, ready) ∷ []))
    ∙ list_all-append is_word (names_of hs) (name ∷ []) ∙ ap (λ (b : Bool). b && (is_word name && true)) words ∙ ap (λ (b : Bool). b && true) word

-- names stay words, whether the call goes well or not
pub words_after : {X E : Type 0} (r : Result X E) (k : Bor (List ℕ)) (v : Bool) (es fs : List (Bor (List ℕ) × Bool)) → list_all is_word (names_of (map view es)) ≡ true → is_word k.now ≡ true
    → length (names_of (map view es)) ≤ place_of (map view es) k.now → OnOk r (fs ≡ insert_entry same_name es k v) → OnErr r (fs ≡ es) → list_all is_word (names_of (map view fs)) ≡ true
words_after (Ok x) k v es fs words word le is same =
    ap (λ (hs : List Head). list_all is_word (names_of hs)) (ap (map view) is ∙ new_last k v es (unknown (map view es) k.now le)) ∙ words_new (map view es) k.now v words word
words_after (Err e) k v es fs words word le is same = ap (λ (gs : List (Bor (List ℕ) × Bool)). list_all is_word (names_of (map view gs))) same ∙ words

-- one more name at most
pub few_after : {E : Type 0} (r : Result (Option Bool) E) (es fs : List (Bor (List ℕ) × Bool)) → length es < 67108864 → IfOk r (λ old. length fs ≡ length es + cond (is_some old) 0 1) → OnErr r (fs ≡ es) → length fs ≤ 67108864
few_after (Ok old) es fs lt len same = go (is_some old) len
  where
    go : (b : Bool) → length fs ≡ length es + cond b 0 1 → length fs ≤ 67108864
    go true e = omega (arith, lt, e)
    go false e = omega (arith, lt, e)
few_after (Err e) es fs lt len same = omega (arith, lt, ap (length {A = Bor (List ℕ) × Bool}) same)

pub length-view : (es : List (Bor (List ℕ) × Bool)) → length (map view es) ≡ length es
length-view [] = refl
length-view (e ∷ es) = ap suc (length-view es)
