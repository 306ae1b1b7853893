-- How far a chain of operators has been read, and its next step.
use Rattle.std.proofs.Common.{◌≡◌, ℕ, zero, suc, ◌<◌, ◌≤◌, List, [], ◌∷◌, length, Option, Some}
use Rattle.std.proofs.Common.{None, Ok, Err, refl, ap, subst, ◌∙◌, arith}
use Rattle.loop_parse.specs.Terms.{Kind, Token}
use Rattle.loop_syntax.specs.declared.expression.BinOp.{BinOp}
use Rattle.loop_syntax.specs.Tree.{Tree, TBin}
use Rattle.loop_parse.specs.declared.reader.Unparsed.{Unparsed}
use Rattle.loop_parse.specs.declared.reader.Unparsed.TheVariants as halts
use Rattle.loop_parse.specs.Reading.{Reply, Fault, Fails, ◌>>=◌, chain, chain_rest}

-- what is read from here on completes what is read
pub record Continues (read : Reply Tree) (item : List Token → Reply Tree) (op : Kind → Option BinOp) (left : Tree) (rest : List Token) : Type 0 where
  pub fuel : ℕ
  pub enough : length rest ≤ fuel
  pub same : read ≡ chain_rest item op fuel left rest

chain_at : (item : List Token → Reply Tree) (op : Kind → Option BinOp) (n : ℕ) (ts rest : List Token) (e : Tree) →
    item ts ≡ Ok (e, rest) → chain item op n ts ≡ chain_rest item op n e rest
chain_at item op n ts rest e h = rw h refl

pub Continues-start : (item : List Token → Reply Tree) (op : Kind → Option BinOp) (n : ℕ) (ts rest : List Token) (e : Tree) →
    item ts ≡ Ok (e, rest) → length rest ≤ n → Continues (chain item op n ts) item op e rest
Continues-start item op n ts rest e h l = record { fuel = n; enough = l; same = chain_at item op n ts rest e h }

chain_more : (item : List Token → Reply Tree) (op : Kind → Option BinOp) (m : ℕ) (left : Tree) (t : Token) (ts : List Token) (o : BinOp) →
    op t.kind ≡ Some o → chain_rest item op (suc m) left (t ∷ ts) ≡ (item ts >>= λ x. chain_rest item op m (TBin o t.place left x.0) x.1)
chain_more item op m left t ts o h = rw (h, chain_rest) refl

pub Continues-step : {read : Reply Tree} {item : List Token → Reply Tree} {op : Kind → Option BinOp} {left : Tree} {rest : List Token} (t : Token) (ts more : List Token) (o : BinOp) (r : Tree) →
    Continues read item op left rest → rest ≡ t ∷ ts → op t.kind ≡ Some o → item ts ≡ Ok (r, more) → length more < length ts → Continues read item op (TBin o t.place left r) more
Continues-step {read} {item} {op} {left} {rest} t ts more o r c e h i s =
    go c.fuel (subst (λ (us : List Token). length us ≤ c.fuel) e c.enough) (c.same ∙ ap (λ us. chain_rest item op c.fuel left us) e)
  where
    go : (m : ℕ) → length (t ∷ ts) ≤ m → read ≡ chain_rest item op m left (t ∷ ts) → Continues read item op (TBin o t.place left r) more
    go zero l same = absurd (omega arith)
    go (suc m) l same = record {
      fuel = m;
      enough = omega arith;
      same = same ∙ chain_more item op m left t ts o h ∙ rw i refl;
    }

pub Continues-fault : {read : Reply Tree} {item : List Token → Reply Tree} {op : Kind → Option BinOp} {left : Tree} {rest : List Token} (t : Token) (ts : List Token) (o : BinOp) (f : Fault) →
    Continues read item op left rest → rest ≡ t ∷ ts → op t.kind ≡ Some o → item ts ≡ Err f → read ≡ Err f
Continues-fault {read} {item} {op} {left} {rest} t ts o f c e h i =
    go c.fuel (subst (λ (us : List Token). length us ≤ c.fuel) e c.enough) (c.same ∙ ap (λ us. chain_rest item op c.fuel left us) e)
  where
    go : (m : ℕ) → length (t ∷ ts) ≤ m → read ≡ chain_rest item op m left (t ∷ ts) → read ≡ Err f
    go zero l same = absurd (omega arith)
    go (suc m) l same = same ∙ chain_more item op m left t ts o h ∙ rw i refl

pub Continues-fails : {read : Reply Tree} {item : List Token → Reply Tree} {op : Kind → Option BinOp} {left : Tree} {rest : List Token} (source : List ℕ) (h : Unparsed) (t : Token) (ts : List Token) (o : BinOp) →
    Continues read item op left rest → rest ≡ t ∷ ts → op t.kind ≡ Some o → Fails source h (item ts) → Fails source h read
Continues-fails source (halts.Form at) t ts o c e p i = Continues-fault t ts o _ c e p i
Continues-fails source (halts.Deep at) t ts o c e p i = Continues-fault t ts o _ c e p i
Continues-fails source halts.NoMemory t ts o c e p i = tt

-- where no operator follows, the chain is whole
pub chain_end : (item : List Token → Reply Tree) (op : Kind → Option BinOp) (m : ℕ) (left : Tree) → chain_rest item op m left [] ≡ Ok (left, [])
chain_end item op zero left = refl
chain_end item op (suc m) left = refl

pub chain_stop : (item : List Token → Reply Tree) (op : Kind → Option BinOp) (m : ℕ) (left : Tree) (t : Token) (ts : List Token) →
    op t.kind ≡ None → chain_rest item op m left (t ∷ ts) ≡ Ok (left, t ∷ ts)
chain_stop item op zero left t ts h = refl
chain_stop item op (suc m) left t ts h = rw (h, chain_rest) refl

pub Continues-end : {read : Reply Tree} {item : List Token → Reply Tree} {op : Kind → Option BinOp} {left : Tree} {rest : List Token} →
    Continues read item op left rest → rest ≡ [] → read ≡ Ok (left, rest)
Continues-end {read} {item} {op} {left} {rest} c e =
    c.same ∙ rw e (chain_end item op c.fuel left)

pub Continues-stop : {read : Reply Tree} {item : List Token → Reply Tree} {op : Kind → Option BinOp} {left : Tree} {rest : List Token} (t : Token) (ts : List Token) →
    Continues read item op left rest → rest ≡ t ∷ ts → op t.kind ≡ None → read ≡ Ok (left, rest)
Continues-stop {read} {item} {op} {left} {rest} t ts c e h =
    c.same ∙ rw e (chain_stop item op c.fuel left t ts h)

pub ruleset chain_steps = (Continues-start, Continues-step, Continues-fails, Continues-end, Continues-stop)
