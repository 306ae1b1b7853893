-- The table of first places.
use Rattle.std.proofs.Common.{◌≡◌, ◌<◌, ◌⊎◌, inl, inr, ℕ, zero, suc, Bool, true, false, cond, List}
use Rattle.std.proofs.Common.{[], ◌∷◌, ◌++◌, map, length, take, get_or, ◌||◌, Option, Some, None}
use Rattle.std.proofs.Common.{is_some, bytes_eq, refl, sym, ap, ◌∙◌, arith}
use Rattle.std.specs.Borrow.{Bor}
use Rattle.std.specs.HashMap.{HashMap, get_by}
use Rattle.std.specs.Map.{update}
use Rattle.std.proofs.lemmas.Slice.Eq.{bytes_eq-Decides}
use Rattle.std.specs.declared.hash.FoldHasher.{FoldHasher}
use Rattle.std.specs.declared.hash.BuildHasherDefault.{BuildHasherDefault}
use Rattle.std.proofs.lemmas.List.{length-map}
use Rattle.loop_syntax.specs.declared.Name.{Name}
use Rattle.loop_syntax.specs.declared.Func.{Func}
use Rattle.loop_syntax.specs.declared.TableDecl.{TableDecl}
use Rattle.loop_rules.specs.Declarations.{table_of_decl, tables_of_decls}
use Rattle.loop_rules.specs.Names.{is_in, texts, func_names, first_named, func_of}
use Rattle.loop_rules.specs.Search.{first_at, next_at}
use Rattle.loop_rules.specs.Index.{IsIndex}

next_some : (o : Option ℕ) (k : ℕ) → next_at o ≡ Some k → (j : ℕ) × ((o ≡ Some j) × (k ≡ suc j))
next_some None k e = cc
next_some (Some j) k e = (j, (refl, cc))

pub first_at-take : (ns : List (List ℕ)) (n : ℕ) (x : List ℕ) (k : ℕ) → first_at (take n ns) x ≡ Some k → first_at ns x ≡ Some k
first_at-take [] zero x k e = e
first_at-take [] (suc n) x k e = e
first_at-take (y ∷ ys) zero x k e = cc
first_at-take (y ∷ ys) (suc n) x k e = go (first_at-take ys n x) (bytes_eq y x) e
  where
    go : ((j : ℕ) → first_at (take n ys) x ≡ Some j → first_at ys x ≡ Some j) → (b : Bool) → cond b (Some 0) (next_at (first_at (take n ys) x)) ≡ Some k → cond b (Some 0) (next_at (first_at ys x)) ≡ Some k
    go r true h = h
    go r false h =
        let p = next_some (first_at (take n ys) x) k h in
        rw (r p.0 p.1.0) (sym (ap Some p.1.1))

pub IsIndex-take : (t : HashMap (Bor (List ℕ)) ℕ (BuildHasherDefault FoldHasher)) (ns : List (List ℕ)) (n : ℕ) → IsIndex t ns → IsIndex t (take n ns)
IsIndex-take t ns n h = record { at = λ x k e. h.at x k (first_at-take ns n x k e) }

first_at-front : (ns : List (List ℕ)) (y x : List ℕ) (k : ℕ) → first_at ns x ≡ Some k → first_at (ns ++ y ∷ []) x ≡ Some k
first_at-front [] y x k e = cc
first_at-front (z ∷ ns) y x k e = go (first_at-front ns y x) (bytes_eq z x) e
  where
    go : ((j : ℕ) → first_at ns x ≡ Some j → first_at (ns ++ y ∷ []) x ≡ Some j) → (b : Bool) → cond b (Some 0) (next_at (first_at ns x)) ≡ Some k → cond b (Some 0) (next_at (first_at (ns ++ y ∷ []) x)) ≡ Some k
    go r true h = h
    go r false h =
        let p = next_some (first_at ns x) k h in
        rw (r p.0 p.1.0) (sym (ap Some p.1.1))

pub IsIndex-front : (t : HashMap (Bor (List ℕ)) ℕ (BuildHasherDefault FoldHasher)) (ns : List (List ℕ)) (y : List ℕ) → IsIndex t (ns ++ y ∷ []) → IsIndex t ns
IsIndex-front t ns y h = record { at = λ x k e. h.at x k (first_at-front ns y x k e) }

-- a name that stands first somewhere is there
pub first_at-here : (ns : List (List ℕ)) (x : List ℕ) (k : ℕ) → first_at ns x ≡ Some k → (k < length ns) × (bytes_eq (get_or ns k []) x ≡ true)
first_at-here [] x k e = cc
first_at-here (y ∷ ys) x k e = go (first_at-here ys x) (bytes_eq y x) refl e
  where
    go : ((j : ℕ) → first_at ys x ≡ Some j → (j < length ys) × (bytes_eq (get_or ys j []) x ≡ true)) → (b : Bool) → bytes_eq y x ≡ b → cond b (Some 0) (next_at (first_at ys x)) ≡ Some k → (k < suc (length ys)) × (bytes_eq (get_or (y ∷ ys) k []) x ≡ true)
    go f true q h = let z : 0 ≡ k = cc in rw (← z) (omega arith, q)
    go f false q h =
        let p = next_some (first_at ys x) k h in
        let r = f p.0 p.1.0 in
        rw p.1.1 (omega (arith, r.0), r.1)

-- a name that is somewhere stands first somewhere
pub first_at-some : (ns : List (List ℕ)) (x : List ℕ) (k : ℕ) → k < length ns → bytes_eq (get_or ns k []) x ≡ true → first_at ns x ≡ None → ⊥
first_at-some [] x k h e n = omega arith
first_at-some (y ∷ ys) x zero h e n = let f : first_at (y ∷ ys) x ≡ Some 0 = rw e refl in cc
first_at-some (y ∷ ys) x (suc k) h e n = go (first_at-some ys x k (omega arith) e) (bytes_eq y x) n
  where
    next_none : (o : Option ℕ) → next_at o ≡ None → o ≡ None
    next_none None q = refl
    next_none (Some j) q = cc

    go : (first_at ys x ≡ None → ⊥) → (b : Bool) → cond b (Some 0) (next_at (first_at ys x)) ≡ None → ⊥
    go f true q = cc
    go f false q = f (next_none (first_at ys x) q)

-- one more name
pub first_at-append : (ns : List (List ℕ)) (y x : List ℕ) (k : ℕ) → first_at (ns ++ y ∷ []) x ≡ Some k
    → (first_at ns x ≡ Some k) ⊎ ((first_at ns x ≡ None) × ((bytes_eq y x ≡ true) × (k ≡ length ns)))
first_at-append [] y x k e = go (bytes_eq y x) refl e
  where
    go : (b : Bool) → bytes_eq y x ≡ b → cond b (Some 0) None ≡ Some k → (None ≡ Some k) ⊎ ((◌≡◌ {A = Option ℕ} None None) × ((bytes_eq y x ≡ true) × (k ≡ 0)))
    go true q h = inr (refl, (q, cc))
    go false q h = inl h
first_at-append (z ∷ ns) y x k e = go (first_at-append ns y x) (bytes_eq z x) e
  where
    more : (j : ℕ) → k ≡ suc j → (first_at ns x ≡ Some j) ⊎ ((first_at ns x ≡ None) × ((bytes_eq y x ≡ true) × (j ≡ length ns)))
        → (next_at (first_at ns x) ≡ Some k) ⊎ ((next_at (first_at ns x) ≡ None) × ((bytes_eq y x ≡ true) × (k ≡ suc (length ns))))
    more j q (inl h) = inl (rw h (sym (ap Some q)))
    more j q (inr h) = inr (rw h.0 refl, (h.1.0, q ∙ ap suc h.1.1))

    go : ((j : ℕ) → first_at (ns ++ y ∷ []) x ≡ Some j → (first_at ns x ≡ Some j) ⊎ ((first_at ns x ≡ None) × ((bytes_eq y x ≡ true) × (j ≡ length ns))))
        → (b : Bool) → cond b (Some 0) (next_at (first_at (ns ++ y ∷ []) x)) ≡ Some k
        → (cond b (Some 0) (next_at (first_at ns x)) ≡ Some k) ⊎ ((cond b (Some 0) (next_at (first_at ns x)) ≡ None) × ((bytes_eq y x ≡ true) × (k ≡ suc (length ns))))
    go f true h = inl h
    go f false h =
        let p = next_some (first_at (ns ++ y ∷ []) x) k h in
        more p.0 p.1.1 (f p.0 p.1.0)

-- ---- what the table answers

module _ (t : HashMap (Bor (List ℕ)) ℕ (BuildHasherDefault FoldHasher)) (ns : List (List ℕ)) (x : List ℕ) (index : IsIndex t ns) where
  pub index_present : (k : ℕ) → get_by (λ n. bytes_eq x n.now) t ≡ Some k → k < length ns → bytes_eq (get_or ns k []) x ≡ true → Some k ≡ first_at ns x
  index_present k h lt e = go (first_at ns x) refl
    where
      go : (o : Option ℕ) → first_at ns x ≡ o → Some k ≡ o
      go None q = absurd (first_at-some ns x k lt e q)
      go (Some j) q = sym h ∙ index.at x j q

  pub index_absent : (k : ℕ) → get_by (λ n. bytes_eq x n.now) t ≡ Some k → (k < length ns → bytes_eq (get_or ns k []) x ≡ true → ⊥) → None ≡ first_at ns x
  index_absent k h f = go (first_at ns x) refl
    where
      go : (o : Option ℕ) → first_at ns x ≡ o → None ≡ o
      go None q = refl
      go (Some j) q =
          let r = first_at-here ns x j q in
          let same : Some k ≡ Some j = sym h ∙ index.at x j q in
          let e : j ≡ k = cc in
          absurd (f (rw (← e) r.0) (rw (← e) r.1))

  -- a name that is there already
  pub index_known : (j : ℕ) → first_at ns x ≡ Some j → IsIndex t (ns ++ x ∷ [])
  index_known j h = record { at = λ q k e. go q k (first_at-append ns x q k e) }
    where
      go : (q : List ℕ) (k : ℕ) → (first_at ns q ≡ Some k) ⊎ ((first_at ns q ≡ None) × ((bytes_eq x q ≡ true) × (k ≡ length ns))) → get_by (λ n. bytes_eq q n.now) t ≡ Some k
      go q k (inl r) = index.at q k r
      go q k (inr r) =
          let e : x ≡ q = (bytes_eq-Decides x q).0 r.1.0 in
          let n : first_at ns x ≡ None = rw e r.0 in
          let no_way : ◌≡◌ {A = Option ℕ} None (Some j) = sym n ∙ h in
          cc

  -- a new name, which the table now has
  pub index_new : (u : HashMap (Bor (List ℕ)) ℕ (BuildHasherDefault FoldHasher)) → first_at ns x ≡ None
      → ((q : List ℕ) → get_by (λ n. bytes_eq q n.now) u ≡ update bytes_eq (λ r. get_by (λ n. bytes_eq r n.now) t) x (Some (length ns)) q)
      → IsIndex u (ns ++ x ∷ [])
  index_new u none upd = record { at = λ q k e. upd q ∙ go q k (first_at-append ns x q k e) }
    where
      other : (q : List ℕ) (k : ℕ) → first_at ns q ≡ Some k → (b : Bool) → bytes_eq x q ≡ b → cond b (Some (length ns)) (get_by (λ n. bytes_eq q n.now) t) ≡ Some k
      other q k r true h =
          let e : x ≡ q = (bytes_eq-Decides x q).0 h in
          let n : first_at ns q ≡ None = rw (← e) none in
          let no_way : ◌≡◌ {A = Option ℕ} None (Some k) = sym n ∙ r in
          cc
      other q k r false h = index.at q k r

      go : (q : List ℕ) (k : ℕ) → (first_at ns q ≡ Some k) ⊎ ((first_at ns q ≡ None) × ((bytes_eq x q ≡ true) × (k ≡ length ns))) → cond (bytes_eq x q) (Some (length ns)) (get_by (λ n. bytes_eq q n.now) t) ≡ Some k
      go q k (inl r) = other q k r (bytes_eq x q) refl
      go q k (inr r) = rw r.1.0 (sym (ap Some r.1.1))

-- the names behind references
abbrev pub names_of : List (Bor (List ℕ)) → List (List ℕ)
names_of ns = map {A = Bor (List ℕ)} {B = List ℕ} (λ n. n.now) ns

-- the name at a place
pub named_at : (ns : List (Bor (List ℕ))) (k : ℕ) (d : Bor (List ℕ)) → k < length ns → get_or (names_of ns) k [] ≡ (get_or ns k d).now
named_at [] k d h = absurd (omega arith)
named_at (m ∷ ns) zero d h = refl
named_at (m ∷ ns) (suc k) d h = named_at ns k d (omega arith)

pub names_of-take : (ns : List (Bor (List ℕ))) (n : ℕ) → names_of (take n ns) ≡ take n (names_of ns)
names_of-take [] zero = refl
names_of-take [] (suc n) = refl
names_of-take (m ∷ ns) zero = refl
names_of-take (m ∷ ns) (suc n) = ap (λ r. m.now ∷ r) (names_of-take ns n)

pub names_of-append : (ns : List (Bor (List ℕ))) (n : Bor (List ℕ)) → names_of (ns ++ n ∷ []) ≡ names_of ns ++ n.now ∷ []
names_of-append [] n = refl
names_of-append (m ∷ ns) n = ap (λ r. m.now ∷ r) (names_of-append ns n)

pub is_some_first_at : (ns : List (List ℕ)) (x : List ℕ) → is_some (first_at ns x) ≡ is_in ns x
is_some_first_at [] x = refl
is_some_first_at (y ∷ ns) x = go (is_some_first_at ns x) (bytes_eq y x)
  where
    after : (o : Option ℕ) → is_some (next_at o) ≡ is_some o
    after None = refl
    after (Some k) = refl

    go : is_some (first_at ns x) ≡ is_in ns x → (b : Bool) → is_some (cond b (Some 0) (next_at (first_at ns x))) ≡ (b || is_in ns x)
    go h true = refl
    go h false = after (first_at ns x) ∙ h

-- ---- functions by their place

pub func_at : (fs : List Func) (x : List ℕ) (k : ℕ) (g : Func) → first_at (func_names fs) x ≡ Some k → k < length fs → g ≡ get_or fs k g → func_of fs x ≡ Some g
func_at [] x k g e h i = cc
func_at (f ∷ fs) x k g e h i = go (func_at fs x) (bytes_eq f.name.text.items x) refl
  where
    here : (j : ℕ) → 0 ≡ j → g ≡ get_or (f ∷ fs) j g → Some f ≡ Some g
    here j q r = ap Some (sym (rw (← q) at r))

    there : ((j : ℕ) (d : Func) → first_at (func_names fs) x ≡ Some j → j < length fs → d ≡ get_or fs j d → func_of fs x ≡ Some d) → (j : ℕ) → first_at (func_names fs) x ≡ Some j → k ≡ suc j → func_of fs x ≡ Some g
    there r j p q = r j g p (omega arith) (rw q at i)

    go : ((j : ℕ) (d : Func) → first_at (func_names fs) x ≡ Some j → j < length fs → d ≡ get_or fs j d → func_of fs x ≡ Some d) → (b : Bool) → bytes_eq f.name.text.items x ≡ b → func_of (f ∷ fs) x ≡ Some g
    go r true q =
        let z : Some 0 ≡ Some k = rw q at e in
        let zero_is : 0 ≡ k = cc in
        rw q (here k zero_is i)
    go r false q =
        let z : next_at (first_at (func_names fs) x) ≡ Some k = rw q at e in
        let p = next_some (first_at (func_names fs) x) k z in
        rw q (there r p.0 p.1.0 p.1.1)

pub func_none : (fs : List Func) (x : List ℕ) → first_at (func_names fs) x ≡ None → func_of fs x ≡ None
func_none [] x e = refl
func_none (f ∷ fs) x e = go (func_none fs x) (bytes_eq f.name.text.items x) e
  where
    next_none : (o : Option ℕ) → next_at o ≡ None → o ≡ None
    next_none None q = refl
    next_none (Some j) q = cc

    go : (first_at (func_names fs) x ≡ None → func_of fs x ≡ None) → (b : Bool) → cond b (Some 0) (next_at (first_at (func_names fs) x)) ≡ None → cond b (Some f) (func_of fs x) ≡ None
    go r true q = cc
    go r false q = r (next_none (first_at (func_names fs) x) q)

pub func_below : (fs : List Func) (x : List ℕ) (k : ℕ) → first_at (func_names fs) x ≡ Some k → k < length fs
func_below fs x k e = rw (length-map fs (λ (f : Func). f.name.text.items)) at (first_at-here (func_names fs) x k e).0

-- ---- tables by their place

name_at : (xs : List Name) (x : List ℕ) (k : ℕ) (y : Name) → first_at (texts xs) x ≡ Some k → k < length xs → y ≡ get_or xs k y → first_named xs x ≡ Some y
name_at [] x k y e h i = cc
name_at (z ∷ xs) x k y e h i = go (name_at xs x) (bytes_eq z.text.items x) refl
  where
    here : (j : ℕ) → 0 ≡ j → y ≡ get_or (z ∷ xs) j y → Some z ≡ Some y
    here j q r = ap Some (sym (rw (← q) at r))

    there : ((j : ℕ) (d : Name) → first_at (texts xs) x ≡ Some j → j < length xs → d ≡ get_or xs j d → first_named xs x ≡ Some d) → (j : ℕ) → first_at (texts xs) x ≡ Some j → k ≡ suc j → first_named xs x ≡ Some y
    there r j p q = r j y p (omega arith) (rw q at i)

    go : ((j : ℕ) (d : Name) → first_at (texts xs) x ≡ Some j → j < length xs → d ≡ get_or xs j d → first_named xs x ≡ Some d) → (b : Bool) → bytes_eq z.text.items x ≡ b → first_named (z ∷ xs) x ≡ Some y
    go r true q =
        let s : Some 0 ≡ Some k = rw q at e in
        let zero_is : 0 ≡ k = cc in
        rw q (here k zero_is i)
    go r false q =
        let s : next_at (first_at (texts xs) x) ≡ Some k = rw q at e in
        let p = next_some (first_at (texts xs) x) k s in
        rw q (there r p.0 p.1.0 p.1.1)

pub name_none : (xs : List Name) (x : List ℕ) → first_at (texts xs) x ≡ None → first_named xs x ≡ None
name_none [] x e = refl
name_none (z ∷ xs) x e = go (name_none xs x) (bytes_eq z.text.items x) e
  where
    next_none : (o : Option ℕ) → next_at o ≡ None → o ≡ None
    next_none None q = refl
    next_none (Some j) q = cc

    go : (first_at (texts xs) x ≡ None → first_named xs x ≡ None) → (b : Bool) → cond b (Some 0) (next_at (first_at (texts xs) x)) ≡ None → cond b (Some z) (first_named xs x) ≡ None
    go r true q = cc
    go r false q = r (next_none (first_at (texts xs) x) q)

pub tables_length : (ds : List TableDecl) → length (tables_of_decls ds) ≡ length ds
tables_length [] = refl
tables_length (d ∷ ds) = ap suc (tables_length ds)

pub texts_length : (xs : List Name) → length (texts xs) ≡ length xs
texts_length xs = length-map xs (λ (x : Name). x.text.items)

pub funcs_length : (fs : List Func) → length (func_names fs) ≡ length fs
funcs_length fs = length-map fs (λ (f : Func). f.name.text.items)

table_get : (ds : List TableDecl) (k : ℕ) (d : TableDecl) → k < length ds → d ≡ get_or ds k d → table_of_decl d ≡ get_or (tables_of_decls ds) k (table_of_decl d)
table_get [] k d h e = absurd (omega arith)
table_get (c ∷ ds) zero d h e = ap table_of_decl e
table_get (c ∷ ds) (suc k) d h e = table_get ds k d (omega arith) e

pub table_at : (ds : List TableDecl) (x : List ℕ) (k : ℕ) (d : TableDecl) → first_at (texts (tables_of_decls ds)) x ≡ Some k → k < length ds → d ≡ get_or ds k d → first_named (tables_of_decls ds) x ≡ Some (table_of_decl d)
table_at ds x k d e h i = name_at (tables_of_decls ds) x k (table_of_decl d) e (rw tables_length h) (table_get ds k d h i)

pub table_below : (ds : List TableDecl) (x : List ℕ) (k : ℕ) → first_at (texts (tables_of_decls ds)) x ≡ Some k → k < length ds
table_below ds x k e = rw (texts_length, tables_length) at (first_at-here (texts (tables_of_decls ds)) x k e).0
