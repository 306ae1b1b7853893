-- The functions that read a table, found from those that read it themselves.
use Rattle.std.proofs.Common.{◌≡◌, ℕ, zero, suc, ◌<◌, ◌≤◌, ◌+◌, List, [], ◌∷◌, ◌++◌, length, get_or}
use Rattle.std.proofs.Common.{take, add-one, map, ◌⊎◌, inl, inr, Option, Some, None, Bool, true}
use Rattle.std.proofs.Common.{false, cond, not, ◌&&◌, ◌||◌, bytes_eq, refl, sym, subst, ap, ◌∙◌}
use Rattle.std.proofs.Common.{arith, Contains}
use Rattle.std.proofs.Math.Seq.{take-suc}
use Rattle.std.specs.Borrow.{Bor}
use Rattle.loop_syntax.specs.declared.TableDecl.{TableDecl}
use Rattle.loop_rules.specs.Declarations.{table_of_decl, tables_of_decls}
use Rattle.loop_syntax.specs.declared.Name.{Name}
use Rattle.loop_syntax.specs.declared.Expr.{Expr}
use Rattle.loop_syntax.specs.declared.Func.{Func}
use Rattle.loop_syntax.specs.declared.Program.{Program}
use Rattle.loop_rules.specs.Names.{is_in, texts, func_of}
use Rattle.loop_rules.specs.Reading.{ReadsTable, itself, through}
use Rattle.loop_rules.specs.Sites.{Act, DeclaresTable, DeclaresFunc, DeclaresAll, Declares, Uses}
use Rattle.loop_rules.specs.Sites.{Assigns, Folds, AssignsBoth, NamesTable, ReadsCell, WritesCell}
use Rattle.loop_rules.specs.Sites.{Calls, Evaluates, Shows, Parallel, Leaves, LeavesAll, Spot, Site, in_func}
use Rattle.loop_check.specs.declared.usage.Usage.{Usage}
use Rattle.loop_check.specs.declared.usage.Usage.TheVariants as usage
use Rattle.loop_check.specs.Usage.{is_use, any_use, uses}
use Rattle.loop_check.specs.Readers.{add_users, IsReadersOf, Pair, pair, pairs_of, IsReaders}
use Rattle.loop_check.specs.declared.reader.Reader.{Reader}
use Rattle.loop_check.specs.Walk.{texts_of}
use Rattle.loop_check.proofs.Lists.{contains_here, contains_there, contains_cons, contains_none}
use Rattle.loop_check.proofs.Lists.{contains_append, contains_left, contains_right}
use Rattle.loop_check.proofs.Bools.{no_both, order}
use Rattle.loop_check.proofs.Found.{eq_is, eq_self, is_in_end, is_in_more}

-- ---- what is found at sites

any_kept : (u : Usage) (ss : List Site) → any_use u true ss ≡ true
any_kept u [] = refl
any_kept u (s ∷ ss) = go (is_use u s.act) (any_kept u ss)
  where
    go : (b : Bool) → any_use u true ss ≡ true → any_use u (b || true) ss ≡ true
    go true h = h
    go false h = h

any_at : (u : Usage) (b : Bool) (ss : List Site) (s : Site) → Contains ss s → is_use u s.act ≡ true → any_use u b ss ≡ true
any_at u b [] s h k = absurd (contains_none s h)
any_at u b (t ∷ ss) s h k = elim (contains_cons ss t s h) [
  | inl e ↦ (let q : is_use u t.act ≡ true = subst (λ (z : Site). is_use u z.act ≡ true) (sym e) k in rw q (any_kept u ss))
  | inr l ↦ any_at u (is_use u t.act || b) ss s l k
]

record Found (u : Usage) (ss : List Site) : Type 0 where
  site : Site
  stands : Contains ss site
  is : is_use u site.act ≡ true

any_found : (u : Usage) (b : Bool) (ss : List Site) → any_use u b ss ≡ true → (b ≡ true) ⊎ Found u ss
any_found u b [] h = inl h
any_found u b (t ∷ ss) h = go (is_use u t.act) refl (any_found u (is_use u t.act || b) ss h)
  where
    go : (c : Bool) → is_use u t.act ≡ c → ((c || b) ≡ true) ⊎ Found u ss → (b ≡ true) ⊎ Found u (t ∷ ss)
    go c e (inr f) = inr (record { site = f.site; stands = contains_there ss t f.site f.stands; is = f.is })
    go true e (inl q) = inr (record { site = t; stands = contains_here ss t; is = e })
    go false e (inl q) = inl q

-- ---- one function

reads_act : (p : Program) (f : List ℕ) (g : Func) (t : Bor (List ℕ)) (a : Act) (w : Spot) → func_of p.funcs.items f ≡ Some g → Contains (in_func p g) (record { act = a; spot = w }) → is_use (usage.Reads t) a ≡ true → ReadsTable p f t.now
reads_act p f g t (ReadsCell u a b) w e h k = subst (λ z. ReadsTable p f z) (eq_is u.text.items t.now k) (itself f g w u a b e h)
reads_act p f g t (WritesCell u a b) w e h k = absurd (cc)
reads_act p f g t (Assigns y) w e h k = absurd (cc)
reads_act p f g t (Folds y) w e h k = absurd (cc)
reads_act p f g t (Calls c n) w e h k = absurd (cc)
reads_act p f g t (DeclaresTable u) w e h k = absurd (cc)
reads_act p f g t (DeclaresFunc d) w e h k = absurd (cc)
reads_act p f g t (DeclaresAll ys) w e h k = absurd (cc)
reads_act p f g t (Declares y) w e h k = absurd (cc)
reads_act p f g t (Uses y) w e h k = absurd (cc)
reads_act p f g t (AssignsBoth y z) w e h k = absurd (cc)
reads_act p f g t (NamesTable u) w e h k = absurd (cc)
reads_act p f g t (Evaluates x) w e h k = absurd (cc)
reads_act p f g t (Shows q) w e h k = absurd (cc)
reads_act p f g t (Parallel q z l) w e h k = absurd (cc)
reads_act p f g t (Leaves y) w e h k = absurd (cc)
reads_act p f g t (LeavesAll ys) w e h k = absurd (cc)

calls_act : (p : Program) (f : List ℕ) (g : Func) (c : Bor (List ℕ)) (t : List ℕ) (a : Act) (w : Spot) → func_of p.funcs.items f ≡ Some g → Contains (in_func p g) (record { act = a; spot = w }) → is_use (usage.Calls c) a ≡ true → ReadsTable p c.now t → ReadsTable p f t
calls_act p f g c t (Calls d n) w e h k r = through f g w d n t e h (subst (λ z. ReadsTable p z t) (sym (eq_is d.text.items c.now k)) r)
calls_act p f g c t (ReadsCell u a b) w e h k r = absurd (cc)
calls_act p f g c t (WritesCell u a b) w e h k r = absurd (cc)
calls_act p f g c t (Assigns y) w e h k r = absurd (cc)
calls_act p f g c t (Folds y) w e h k r = absurd (cc)
calls_act p f g c t (DeclaresTable u) w e h k r = absurd (cc)
calls_act p f g c t (DeclaresFunc d) w e h k r = absurd (cc)
calls_act p f g c t (DeclaresAll ys) w e h k r = absurd (cc)
calls_act p f g c t (Declares y) w e h k r = absurd (cc)
calls_act p f g c t (Uses y) w e h k r = absurd (cc)
calls_act p f g c t (AssignsBoth y z) w e h k r = absurd (cc)
calls_act p f g c t (NamesTable u) w e h k r = absurd (cc)
calls_act p f g c t (Evaluates x) w e h k r = absurd (cc)
calls_act p f g c t (Shows q) w e h k r = absurd (cc)
calls_act p f g c t (Parallel q z l) w e h k r = absurd (cc)
calls_act p f g c t (Leaves y) w e h k r = absurd (cc)
calls_act p f g c t (LeavesAll ys) w e h k r = absurd (cc)

uses_reads : (p : Program) (f : List ℕ) (t : Bor (List ℕ)) (o : Option Func) → func_of p.funcs.items f ≡ o → uses p (usage.Reads t) o ≡ true → ReadsTable p f t.now
uses_reads p f t None e h = absurd (cc)
uses_reads p f t (Some g) e h = elim (any_found (usage.Reads t) false (in_func p g) h) [
  | inl q ↦ absurd (cc)
  | inr q ↦ reads_act p f g t q.site.act q.site.spot e q.stands q.is
]

uses_calls : (p : Program) (f : List ℕ) (c : Bor (List ℕ)) (t : List ℕ) (o : Option Func) → func_of p.funcs.items f ≡ o → uses p (usage.Calls c) o ≡ true → ReadsTable p c.now t → ReadsTable p f t
uses_calls p f c t None e h r = absurd (cc)
uses_calls p f c t (Some g) e h r = elim (any_found (usage.Calls c) false (in_func p g) h) [
  | inl q ↦ absurd (cc)
  | inr q ↦ calls_act p f g c t q.site.act q.site.spot e q.stands q.is r
]

-- ---- the functions that do that

module _ (p : Program) (u : Usage) where
  abbrev one : Func → List (List ℕ) → List (List ℕ)
  one f xs = cond (not (is_in xs f.name.text.items) && uses p u (func_of p.funcs.items f.name.text.items)) (xs ++ f.name.text.items ∷ []) xs

  one_keeps : (f : Func) (xs : List (List ℕ)) (x : List ℕ) → is_in xs x ≡ true → is_in (one f xs) x ≡ true
  one_keeps f xs x h = go (not (is_in xs f.name.text.items) && uses p u (func_of p.funcs.items f.name.text.items))
    where
      go : (b : Bool) → is_in (cond b (xs ++ f.name.text.items ∷ []) xs) x ≡ true
      go true = is_in_more xs f.name.text.items x h
      go false = h

  one_has : (f : Func) (xs : List (List ℕ)) → uses p u (func_of p.funcs.items f.name.text.items) ≡ true → is_in (one f xs) f.name.text.items ≡ true
  one_has f xs h = rw h (go (is_in xs f.name.text.items) refl)
    where
      go : (b : Bool) → is_in xs f.name.text.items ≡ b → is_in (cond (not b && true) (xs ++ f.name.text.items ∷ []) xs) f.name.text.items ≡ true
      go true e = e
      go false e = is_in_end xs f.name.text.items

  in_ends : (xs : List (List ℕ)) (y x : List ℕ) → is_in (xs ++ y ∷ []) x ≡ true → (is_in xs x ≡ true) ⊎ (y ≡ x)
  in_ends [] y x h = go (bytes_eq y x) refl h
    where
      go : (b : Bool) → bytes_eq y x ≡ b → (b || false) ≡ true → (false ≡ true) ⊎ (y ≡ x)
      go true e k = inr (eq_is y x e)
      go false e k = inl k
  in_ends (z ∷ xs) y x h = go (bytes_eq z x) (λ k. in_ends xs y x k) h
    where
      go : (b : Bool) → (is_in (xs ++ y ∷ []) x ≡ true → (is_in xs x ≡ true) ⊎ (y ≡ x)) → (b || is_in (xs ++ y ∷ []) x) ≡ true → ((b || is_in xs x) ≡ true) ⊎ (y ≡ x)
      go true f k = inl refl
      go false f k = f k

  one_from : (f : Func) (xs : List (List ℕ)) (x : List ℕ) → is_in (one f xs) x ≡ true → (is_in xs x ≡ true) ⊎ (uses p u (func_of p.funcs.items x) ≡ true)
  one_from f xs x h = go (is_in xs f.name.text.items) (uses p u (func_of p.funcs.items f.name.text.items)) refl h
    where
      go : (a b : Bool) → uses p u (func_of p.funcs.items f.name.text.items) ≡ b → is_in (cond (not a && b) (xs ++ f.name.text.items ∷ []) xs) x ≡ true → (is_in xs x ≡ true) ⊎ (uses p u (func_of p.funcs.items x) ≡ true)
      go true b e k = inl k
      go false false e k = inl k
      go false true e k = elim (in_ends xs f.name.text.items x k) [ inl q ↦ inl q | inr q ↦ inr (subst (λ z. uses p u (func_of p.funcs.items z) ≡ true) q e) ]

  pub users_keep : (fs : List Func) (xs : List (List ℕ)) (x : List ℕ) → is_in xs x ≡ true → is_in (add_users p u fs xs) x ≡ true
  users_keep [] xs x h = h
  users_keep (f ∷ fs) xs x h = users_keep fs (one f xs) x (one_keeps f xs x h)

  users_from : (fs : List Func) (xs : List (List ℕ)) (x : List ℕ) → is_in (add_users p u fs xs) x ≡ true → (is_in xs x ≡ true) ⊎ (uses p u (func_of p.funcs.items x) ≡ true)
  users_from [] xs x h = inl h
  users_from (f ∷ fs) xs x h = elim (users_from fs (one f xs) x h) [ inl q ↦ one_from f xs x q | inr q ↦ inr q ]

  users_have : (fs : List Func) (xs : List (List ℕ)) (x : List ℕ) (g : Func) → func_of fs x ≡ Some g → uses p u (func_of p.funcs.items x) ≡ true → is_in (add_users p u fs xs) x ≡ true
  users_have [] xs x g e h = absurd (cc)
  users_have (f ∷ fs) xs x g e h = go (bytes_eq f.name.text.items x) refl e (λ k. users_have fs (one f xs) x g k h)
    where
      go : (b : Bool) → bytes_eq f.name.text.items x ≡ b → cond b (Some f) (func_of fs x) ≡ Some g → (func_of fs x ≡ Some g → is_in (add_users p u fs (one f xs)) x ≡ true) → is_in (add_users p u fs (one f xs)) x ≡ true
      go true q k r =
          let same : f.name.text.items ≡ x = eq_is f.name.text.items x q in
          users_keep fs (one f xs) x (subst (λ z. is_in (one f xs) z ≡ true) same (one_has f xs (subst (λ z. uses p u (func_of p.funcs.items z) ≡ true) (sym same) h)))
      go false q k r = r k

  longer_at : (ys : List (List ℕ)) (y : List ℕ) (k : ℕ) (d : List ℕ) → k < length ys → get_or (ys ++ y ∷ []) k d ≡ get_or ys k d
  longer_at [] y k d lt = absurd (omega arith)
  longer_at (z ∷ ys) y zero d lt = refl
  longer_at (z ∷ ys) y (suc k) d lt = longer_at ys y k d (omega arith)

  longer : (ys : List (List ℕ)) (y : List ℕ) (k : ℕ) → k < length ys → k < length (ys ++ y ∷ [])
  longer [] y k lt = absurd (omega arith)
  longer (z ∷ ys) y zero lt = omega arith
  longer (z ∷ ys) y (suc k) lt = let h = longer ys y k (omega arith) in omega arith

  one_at : (f : Func) (xs : List (List ℕ)) (k : ℕ) (d : List ℕ) → k < length xs → get_or (one f xs) k d ≡ get_or xs k d
  one_at f xs k d lt = go (not (is_in xs f.name.text.items) && uses p u (func_of p.funcs.items f.name.text.items))
    where
      go : (b : Bool) → get_or (cond b (xs ++ f.name.text.items ∷ []) xs) k d ≡ get_or xs k d
      go true = longer_at xs f.name.text.items k d lt
      go false = refl

  one_longer : (f : Func) (xs : List (List ℕ)) (k : ℕ) → k < length xs → k < length (one f xs)
  one_longer f xs k lt = go (not (is_in xs f.name.text.items) && uses p u (func_of p.funcs.items f.name.text.items))
    where
      go : (b : Bool) → k < length (cond b (xs ++ f.name.text.items ∷ []) xs)
      go true = longer xs f.name.text.items k lt
      go false = lt

  -- the names go on, and none is moved
  users_at : (fs : List Func) (xs : List (List ℕ)) (k : ℕ) (d : List ℕ) → k < length xs → get_or (add_users p u fs xs) k d ≡ get_or xs k d
  users_at [] xs k d lt = refl
  users_at (f ∷ fs) xs k d lt = users_at fs (one f xs) k d (one_longer f xs k lt) ∙ one_at f xs k d lt

-- ---- the search goes on until nothing is left

-- the names so far, where those that call one of the first i of them are among them
pub record Closing (p : Program) (t : List ℕ) (xs : List (List ℕ)) (i : ℕ) : Type 0 where
  pub sound : (f : List ℕ) → is_in xs f ≡ true → ReadsTable p f t
  pub own : (f : List ℕ) (g : Func) (w : Spot) (u : Name) (a b : Expr) → func_of p.funcs.items f ≡ Some g → Contains (in_func p g) (record { act = ReadsCell u a b; spot = w }) → u.text.items ≡ t → is_in xs f ≡ true
  pub closed : (k : ℕ) → k < i → k < length xs → (f : List ℕ) (g : Func) (w : Spot) (h : Name) (n : ℕ) → func_of p.funcs.items f ≡ Some g → Contains (in_func p g) (record { act = Calls h n; spot = w }) → h.text.items ≡ get_or xs k [] → is_in xs f ≡ true

name_test : (x y : List ℕ) → x ≡ y → bytes_eq x y ≡ true
name_test x y e = subst (λ z. bytes_eq x z ≡ true) e (eq_self x)

pub closing_first : (p : Program) (t : Bor (List ℕ)) → Closing p t.now (add_users p (usage.Reads t) p.funcs.items []) 0
closing_first p t = record {
  sound = λ f h. elim (users_from p (usage.Reads t) p.funcs.items [] f h) [ inl q ↦ absurd (no_both true refl (sym q)) | inr q ↦ uses_reads p f t (func_of p.funcs.items f) refl q ];
  own = λ f g w u a b e h q.
      users_have p (usage.Reads t) p.funcs.items [] f g e (rw e (any_at (usage.Reads t) false (in_func p g) (record { act = ReadsCell u a b; spot = w }) h (name_test u.text.items t.now q)));
  closed = λ k lt. absurd (omega arith);
}

in_at : (xs : List (List ℕ)) (k : ℕ) → k < length xs → is_in xs (get_or xs k []) ≡ true
in_at [] k lt = absurd (omega arith)
in_at (x ∷ xs) zero lt = rw (eq_self x) refl
in_at (x ∷ xs) (suc k) lt = go (bytes_eq x (get_or xs k [])) (in_at xs k (omega arith))
  where
    go : (b : Bool) → is_in xs (get_or xs k []) ≡ true → (b || is_in xs (get_or xs k [])) ≡ true
    go true h = refl
    go false h = h

pub closing_next : (p : Program) (t : List ℕ) (xs : List (List ℕ)) (i : ℕ) (c : Bor (List ℕ)) → Closing p t xs i → i < length xs → c.now ≡ get_or xs i [] → Closing p t (add_users p (usage.Calls c) p.funcs.items xs) (i + 1)
closing_next p t xs i c q lt is = record {
  sound = λ f h. elim (users_from p (usage.Calls c) p.funcs.items xs f h) [
    | inl k ↦ q.sound f k
    | inr k ↦ uses_calls p f c t (func_of p.funcs.items f) refl k (subst (λ z. ReadsTable p z t) (sym is) (q.sound (get_or xs i []) (in_at xs i lt)))
  ];
  own = λ f g w u a b e h k. users_keep p (usage.Calls c) p.funcs.items xs f (q.own f g w u a b e h k);
  closed = λ k less here f g w h n e m r.
      by k (ord k less) f g w h n e m (r ∙ users_at p (usage.Calls c) p.funcs.items xs k [] (omega arith));
}
  where
    ord : (k : ℕ) → k < i + 1 → (k < i) ⊎ (k ≡ i)
    ord k less = elim (order k i) [ inl l ↦ inl l | inr l ↦ inr (omega arith) ]

    by : (k : ℕ) → (k < i) ⊎ (k ≡ i) → (f : List ℕ) (g : Func) (w : Spot) (h : Name) (n : ℕ) → func_of p.funcs.items f ≡ Some g → Contains (in_func p g) (record { act = Calls h n; spot = w }) → h.text.items ≡ get_or xs k [] → is_in (add_users p (usage.Calls c) p.funcs.items xs) f ≡ true
    by k (inl l) f g w h n e m r = users_keep p (usage.Calls c) p.funcs.items xs f (q.closed k l (omega arith) f g w h n e m r)
    by k (inr l) f g w h n e m r =
        let same : h.text.items ≡ c.now = r ∙ ap (λ j. get_or xs j []) l ∙ sym is in
        users_have p (usage.Calls c) p.funcs.items xs f g e (rw e (any_at (usage.Calls c) false (in_func p g) (record { act = Calls h n; spot = w }) m (name_test h.text.items c.now same)))

in_index : (xs : List (List ℕ)) (x : List ℕ) → is_in xs x ≡ true → (k : ℕ) × (k < length xs) × (x ≡ get_or xs k [])
in_index [] x h = absurd (no_both true refl (sym h))
in_index (y ∷ xs) x h = go (bytes_eq y x) refl h (λ k. in_index xs x k)
  where
    go : (b : Bool) → bytes_eq y x ≡ b → (b || is_in xs x) ≡ true → (is_in xs x ≡ true → (k : ℕ) × (k < length xs) × (x ≡ get_or xs k [])) → (k : ℕ) × (k < length (y ∷ xs)) × (x ≡ get_or (y ∷ xs) k [])
    go true e k f = (0, omega arith, sym (eq_is y x e))
    go false e k f = let r = f k in (suc r.0, (let l : r.0 < length xs = r.1 in omega arith), r.2)

module _ (p : Program) (t : List ℕ) (xs : List (List ℕ)) (i : ℕ) (q : Closing p t xs i) (all : length xs ≤ i) where
  whole : (f u : List ℕ) → ReadsTable p f u → u ≡ t → is_in xs f ≡ true
  whole _ _ (itself f g w v a b e h) same = q.own f g w v a b e h same
  whole _ _ (through f g w h n u e c r) same = let k = in_index xs h.text.items (whole h.text.items u r same) in let l : k.0 < length xs = k.1 in q.closed k.0 (omega arith) k.1 f g w h n e c k.2

  pub closing_end : IsReadersOf p t xs
  closing_end = record { sound = q.sound; complete = λ f r. whole f t r refl }

-- ---- names behind references

pub texts_at : (ys : List (Bor (List ℕ))) (k : ℕ) (d : Bor (List ℕ)) → k < length ys → get_or (texts_of ys) k [] ≡ (get_or ys k d).now
texts_at [] k d lt = absurd (omega arith)
texts_at (y ∷ ys) zero d lt = refl
texts_at (y ∷ ys) (suc k) d lt = texts_at ys k d (omega arith)

-- ---- the readers of one more table

names_pairs : (t : List ℕ) (xs : List (List ℕ)) (f : List ℕ) → is_in xs f ≡ true → Contains (map (pair t) xs) (pair t f)
names_pairs t [] f h = absurd (no_both true refl (sym h))
names_pairs t (x ∷ xs) f h = go (bytes_eq x f) refl h (λ k. names_pairs t xs f k)
  where
    go : (b : Bool) → bytes_eq x f ≡ b → (b || is_in xs f) ≡ true → (is_in xs f ≡ true → Contains (map (pair t) xs) (pair t f)) → Contains (map (pair t) (x ∷ xs)) (pair t f)
    go true e k r = subst (λ z. Contains (pair t z ∷ map (pair t) xs) (pair t f)) (sym (eq_is x f e)) (contains_here (map (pair t) xs) (pair t f))
    go false e k r = contains_there (map (pair t) xs) (pair t x) (pair t f) (r k)

pairs_names : (t : List ℕ) (xs : List (List ℕ)) (r : Pair) → Contains (map (pair t) xs) r → (r.table ≡ t) × (is_in xs r.func ≡ true)
pairs_names t [] r h = absurd (contains_none r h)
pairs_names t (x ∷ xs) r h = elim (contains_cons (map (pair t) xs) (pair t x) r h) [
  | inl e ↦ (ap (λ (z : Pair). z.table) (sym e), first (ap (λ (z : Pair). z.func) e))
  | inr k ↦ (let q = pairs_names t xs r k in (q.0, later q.1))
]
  where
    first : x ≡ r.func → is_in (x ∷ xs) r.func ≡ true
    first e = rw (name_test x r.func e) refl

    later : is_in xs r.func ≡ true → is_in (x ∷ xs) r.func ≡ true
    later h = go (bytes_eq x r.func)
      where
        go : (b : Bool) → (b || is_in xs r.func) ≡ true
        go true = refl
        go false = h

in_texts : (ts : List Name) (t : Name) (x : List ℕ) → is_in (texts (ts ++ t ∷ [])) x ≡ true → (is_in (texts ts) x ≡ true) ⊎ (t.text.items ≡ x)
in_texts [] t x h = go (bytes_eq t.text.items x) refl h
  where
    go : (b : Bool) → bytes_eq t.text.items x ≡ b → (b || false) ≡ true → (false ≡ true) ⊎ (t.text.items ≡ x)
    go true e k = inr (eq_is t.text.items x e)
    go false e k = inl k
in_texts (y ∷ ts) t x h = go (bytes_eq y.text.items x) h (λ k. in_texts ts t x k)
  where
    go : (b : Bool) → (b || is_in (texts (ts ++ t ∷ [])) x) ≡ true → (is_in (texts (ts ++ t ∷ [])) x ≡ true → (is_in (texts ts) x ≡ true) ⊎ (t.text.items ≡ x)) → ((b || is_in (texts ts) x) ≡ true) ⊎ (t.text.items ≡ x)
    go true k f = inl refl
    go false k f = f k

pub readers_more : (p : Program) (ts : List Name) (t : Name) (names : List (List ℕ)) (old new : List Reader) → IsReaders p ts old → IsReadersOf p t.text.items names
    → pairs_of new ≡ pairs_of old ++ map (pair t.text.items) names → IsReaders p (ts ++ t ∷ []) new
readers_more p ts t names old new q r e = record {
  sound = λ z h. elim (contains_append (pairs_of old) (map (pair t.text.items) names) z (subst (λ l. Contains l z) e h)) [
    | inl k ↦ q.sound z k
    | inr k ↦ (let m = pairs_names t.text.items names z k in subst (λ u. ReadsTable p z.func u) (sym m.0) (r.sound z.func m.1))
  ];
  complete = λ f u h k. subst (λ l. Contains l (pair u f)) (sym e) (elim (in_texts ts t u h) [
    | inl a ↦ contains_left (pairs_of old) (map (pair t.text.items) names) (pair u f) (q.complete f u a k)
    | inr a ↦ contains_right (pairs_of old) (map (pair t.text.items) names) (pair u f)
        (subst (λ z. Contains (map (pair t.text.items) names) (pair z f)) a (names_pairs t.text.items names f (r.complete f (subst (λ z. ReadsTable p f z) (sym a) k))))
  ]);
}

decls_end : (ds : List TableDecl) (d : TableDecl) → tables_of_decls (ds ++ d ∷ []) ≡ tables_of_decls ds ++ table_of_decl d ∷ []
decls_end [] d = refl
decls_end (e ∷ ds) d = ap (λ l. table_of_decl e ∷ l) (decls_end ds d)

pub decls_more : (ds : List TableDecl) (i : ℕ) (d : TableDecl) → i < length ds → d ≡ get_or ds i d → tables_of_decls (take (i + 1) ds) ≡ tables_of_decls (take i ds) ++ table_of_decl d ∷ []
decls_more ds i d lt is =
    ap (λ n. tables_of_decls (take n ds)) (add-one i) ∙ ap tables_of_decls (take-suc ds i d lt) ∙ ap (λ z. tables_of_decls (take i ds ++ z ∷ [])) (sym is) ∙ decls_end (take i ds) d
