-- How far items have been read one after another, and the next one.
use Rattle.std.proofs.Common.{◌≡◌, ℕ, zero, suc, ◌<◌, ◌≤◌, List, [], ◌∷◌, ◌++◌, length, map, Ok}
use Rattle.std.proofs.Common.{Err, Bool, true, false, if◌then◌else◌, refl, sym, ap, ◌∙◌}
use Rattle.std.proofs.Common.{append_assoc, arith}
use Rattle.loop_parse.specs.Terms.{Kind, Token}
use Rattle.loop_parse.specs.declared.reader.Unparsed.{Unparsed}
use Rattle.loop_parse.specs.declared.reader.Unparsed.TheVariants as halts
use Rattle.loop_parse.specs.Reading.{Reply, Reader, Fault, Fails, ◌>>=◌, starts, many_of}
use Rattle.loop_parse.specs.Reading.{with_front}

-- what is read from here on completes what is read
pub record Many {A : Type 0} (read : Reply (List A)) (begins : Kind → Bool) (item : Reader A) (front : List A) (rest : List Token) : Type 0 where
  pub fuel : ℕ
  pub enough : length rest ≤ fuel
  pub same : read ≡ with_front front (many_of begins item fuel rest)

with_none : {A : Type 0} (r : Reply (List A)) → r ≡ with_front [] r
with_none (Ok x) = refl
with_none (Err e) = refl

pub Many-start : {A : Type 0} (begins : Kind → Bool) (item : Reader A) (n : ℕ) (ts : List Token) → length ts ≤ n → Many (many_of begins item n ts) begins item [] ts
Many-start begins item n ts l = record { fuel = n; enough = l; same = with_none (many_of begins item n ts) }

pub Many-front : {A : Type 0} (begins : Kind → Bool) (item : Reader A) (n : ℕ) (front : List A) (ts : List Token) → length ts ≤ n → Many (with_front front (many_of begins item n ts)) begins item front ts
Many-front begins item n front ts l = record { fuel = n; enough = l; same = refl }

-- one item and those after it
abbrev pub on_item : {A : Type 0} → (Kind → Bool) → Reader A → ℕ → A × List Token → Reply (List A)
on_item begins item m x = many_of begins item m x.1 >>= λ xs. Ok (x.0 ∷ xs.0, xs.1)

pub many_more : {A : Type 0} (begins : Kind → Bool) (item : Reader A) (m : ℕ) (t : Token) (ts : List Token) → begins t.kind ≡ true → many_of begins item (suc m) (t ∷ ts) ≡ (item (t ∷ ts) >>= on_item begins item m)
many_more begins item m t ts h = ap (λ b. if b then (item (t ∷ ts) >>= on_item begins item m) else Ok ([], t ∷ ts)) h

pub many_stop : {A : Type 0} (begins : Kind → Bool) (item : Reader A) (m : ℕ) (ts : List Token) → starts begins ts ≡ false → many_of begins item m ts ≡ Ok ([], ts)
many_stop begins item zero ts h = refl
many_stop begins item (suc m) [] h = refl
many_stop begins item (suc m) (t ∷ ts) h = ap (λ b. if b then (item (t ∷ ts) >>= on_item begins item m) else Ok ([], t ∷ ts)) h

nothing_more : {A : Type 0} (front : List A) → front ++ [] ≡ front
nothing_more [] = refl
nothing_more (x ∷ xs) = ap (λ r. x ∷ r) (nothing_more xs)

with_more : {A : Type 0} (front : List A) (x : A) (r : Reply (List A)) → with_front front (r >>= λ xs. Ok (x ∷ xs.0, xs.1)) ≡ with_front (front ++ x ∷ []) r
with_more front x (Ok y) = ap (λ q. Ok (q, y.1)) (sym (append_assoc front (x ∷ []) y.0))
with_more front x (Err e) = refl

map_more : {X A : Type 0} (view : X → A) (old : List X) (x : X) → map view (old ++ x ∷ []) ≡ map view old ++ view x ∷ []
map_more view [] x = refl
map_more view (y ∷ ys) x = ap (λ r. view y ∷ r) (map_more view ys x)

-- the list isn't empty where an item begins
spend : (P : ℕ → List Token → Type 0) (begins : Kind → Bool) (n : ℕ) (ts : List Token) → starts begins ts ≡ true → length ts ≤ n → ((m : ℕ) (t : Token) (us : List Token) → ts ≡ t ∷ us → begins t.kind ≡ true → length us ≤ m → P (suc m) (t ∷ us)) → P n ts
spend P begins n [] h l f = cc
spend P begins zero (t ∷ us) h l f = absurd (omega arith)
spend P begins (suc m) (t ∷ us) h l f = f m t us refl h (omega arith)

many_at : {A : Type 0} (begins : Kind → Bool) (item : Reader A) (n : ℕ) (ts : List Token) → starts begins ts ≡ true → length ts ≤ n → (m : ℕ) × (length ts ≤ suc m) × (many_of begins item n ts ≡ (item ts >>= on_item begins item m))
many_at begins item n ts h l =
    spend (λ k us. (m : ℕ) × (length us ≤ suc m) × (many_of begins item k us ≡ (item us >>= on_item begins item m))) begins n ts h l
    (λ m t us e b q. (m, omega arith, many_more begins item m t us b))

pub Many-step : {X A : Type 0} {read : Reply (List A)} {begins : Kind → Bool} {item : Reader A} {rest : List Token} (view : X → A) (more : List Token) (x : X) (old new : List X) →
    Many read begins item (map view old) rest → starts begins rest ≡ true → item rest ≡ Ok (view x, more) → length more < length rest → new ≡ old ++ x ∷ [] → Many read begins item (map view new) more
Many-step {read = read} {begins = begins} {item = item} {rest = rest} view more x old new b h i k w =
    let a = many_at begins item b.fuel rest h b.enough in record {
      fuel = a.0;
      enough = omega (arith, a.1);
      same = b.same ∙ ap (with_front (map view old)) (a.2 ∙ ap (λ r. r >>= on_item begins item a.0) i) ∙ with_more (map view old) (view x) (many_of begins item a.0 more)
          ∙ ap (λ q. with_front q (many_of begins item a.0 more)) (sym (map_more view old x) ∙ ap (map view) (sym w));
    }

pub Many-fault : {A : Type 0} {read : Reply (List A)} {begins : Kind → Bool} {item : Reader A} {front : List A} {rest : List Token} (f : Fault) →
    Many read begins item front rest → starts begins rest ≡ true → item rest ≡ Err f → read ≡ Err f
Many-fault {read = read} {begins = begins} {item = item} {front = front} {rest = rest} f b h i =
    let a = many_at begins item b.fuel rest h b.enough in
    b.same ∙ ap (with_front front) (a.2 ∙ ap (λ r. r >>= on_item begins item a.0) i)

pub Many-fails : {A : Type 0} {read : Reply (List A)} {begins : Kind → Bool} {item : Reader A} {front : List A} {rest : List Token} (source : List ℕ) (h : Unparsed) →
    Many read begins item front rest → starts begins rest ≡ true → Fails source h (item rest) → Fails source h read
Many-fails source (halts.Form at) b p i = Many-fault _ b p i
Many-fails source (halts.Deep at) b p i = Many-fault _ b p i
Many-fails source halts.NoMemory b p i = tt

pub Many-stop : {A : Type 0} {read : Reply (List A)} {begins : Kind → Bool} {item : Reader A} {front : List A} {rest : List Token} →
    Many read begins item front rest → starts begins rest ≡ false → read ≡ Ok (front, rest)
Many-stop {read = read} {begins = begins} {item = item} {front = front} {rest = rest} b h =
    b.same ∙ ap (with_front front) (many_stop begins item b.fuel rest h) ∙ ap (λ q. Ok (q, rest)) (nothing_more front)

pub ruleset many_steps = (Many-start, Many-front, Many-step, Many-fails, Many-stop)
