-- One step of reading tokens.
use Rattle.std.proofs.Common.{◌≡◌, ℕ, ◌*◌, suc, ℤ, Bool, true, false, cond, bytes_eq, codes, Option}
use Rattle.std.proofs.Common.{List, [], ◌∷◌, ◌++◌, None, Some, Err, refl, sym, ap, ◌∙◌}
use Rattle.tp_value.specs.declared.values.Table.{Table}
use Rattle.table_text.specs.declared.fault.TableFault.{TableFault}
use Rattle.table_text.specs.declared.fault.TableFault.TheVariants.{Form, Cells, Repeated, NoMemory}
use Rattle.table_text.specs.Token.{Token}
use Rattle.table_text.specs.Wanted.{AName, misfit, is_known, cells_of, name_misfit, size_misfit}
use Rattle.table_text.specs.TablesText.{IsUnfinished}
use Rattle.table_text.specs.Reading.{Progress, Between, Opened, Named, Tall, Filling, filled}
use Rattle.table_text.specs.Reading.{progress, wanted_at, read, unless, Takes, TakesNumber}
use Rattle.table_text.specs.Reading.{TakesName, TakesSize, TokenMisfits, OnFault}

-- a token that fits
pub read-fits : (len : ℕ) (token : Token) (tokens : List Token) (at : Progress) → misfit (wanted_at at) token ≡ None →
    read len (token ∷ tokens) at ≡ read len tokens (progress at token)
unfolding read
read-fits len token tokens at fits = ap (λ m. unless m (read len tokens (progress at token))) fits

-- a token that doesn't, or none
pub read-misfits : (len : ℕ) (tokens : List Token) (at : Progress) (fault : TableFault) →
    TokenMisfits len (misfit (wanted_at at)) tokens fault → IsUnfinished (wanted_at at) → read len tokens at ≡ Err fault
unfolding read
read-misfits len [] (Between before) fault wrong open' = absurd open'
read-misfits len [] (Opened before) fault wrong open' = ap Err (sym wrong)
read-misfits len [] (Named before name) fault wrong open' = ap Err (sym wrong)
read-misfits len [] (Tall before name rows) fault wrong open' = ap Err (sym wrong)
read-misfits len [] (Filling before name rows cols cells more) fault wrong open' = ap Err (sym wrong)
read-misfits len (token ∷ tokens) at fault wrong open' = ap (λ m. unless m (read len tokens (progress at token))) wrong

-- a token that passes the test of that place
read-takes : (len : ℕ) (test : Token → Option TableFault) (tokens : List Token) (token : Token) (rest : List Token) (at : Progress) →
    Takes test tokens token rest → test token ≡ misfit (wanted_at at) token → read len tokens at ≡ read len rest (progress at token)
read-takes len test tokens token rest at takes same =
    ap (λ ts. read len ts at) takes.0 ∙ read-fits len token rest at (sym same ∙ takes.1)

-- one that doesn't, or none
read-refuses : (len : ℕ) (test : Token → Option TableFault) (tokens : List Token) (at : Progress) (fault : TableFault) →
    TokenMisfits len test tokens fault → ((token : Token) → test token ≡ misfit (wanted_at at) token) → IsUnfinished (wanted_at at) →
    read len tokens at ≡ Err fault
read-refuses len test [] at fault wrong same open' = read-misfits len [] at fault wrong open'
read-refuses len test (token ∷ tokens) at fault wrong same open' =
    read-misfits len (token ∷ tokens) at fault (sym (same token) ∙ wrong) open'

-- the word `table`
pub read-word : (len : ℕ) (word : Token) (tokens : List Token) (before : List Table) → bytes_eq word.bytes (codes "table") ≡ true →
    read len (word ∷ tokens) (Between before) ≡ read len tokens (Opened before)
read-word len word tokens before is =
    read-fits len word tokens (Between before) (ap (λ t. cond t None (Some (Form word.at))) is)

pub read-no_word : (len : ℕ) (word : Token) (tokens : List Token) (before : List Table) → bytes_eq word.bytes (codes "table") ≡ false →
    read len (word ∷ tokens) (Between before) ≡ Err (Form word.at)
unfolding read
read-no_word len word tokens before is =
    ap (λ m. unless m (read len tokens (Opened before))) (ap (λ t. cond t None (Some (Form word.at))) is)

-- a name, where `known` tells the tables' names
name_same : (known : List ℕ → Bool) (before : List Table) → ((name : List ℕ) → known name ≡ is_known before name) →
    (token : Token) → name_misfit (known token.bytes) token ≡ misfit (AName before) token
name_same known before agree token = ap (λ k. name_misfit k token) (agree token.bytes)

pub read-name : (len : ℕ) (known : List ℕ → Bool) (tokens : List Token) (name : List ℕ) (rest : List Token) (before : List Table) →
    TakesName known tokens name rest → ((n : List ℕ) → known n ≡ is_known before n) →
    read len tokens (Opened before) ≡ read len rest (Named before name)
read-name len known tokens name rest before (token, (takes, gives)) agree =
    read-takes len (λ t. name_misfit (known t.bytes) t) tokens token rest (Opened before) takes (name_same known before agree token)
    ∙ ap (λ n. read len rest (Named before n)) (sym gives)

pub read-no_name : (len : ℕ) (known : List ℕ → Bool) (tokens : List Token) (fault : TableFault) (before : List Table) →
    TokenMisfits len (λ t. name_misfit (known t.bytes) t) tokens fault → ((n : List ℕ) → known n ≡ is_known before n) →
    read len tokens (Opened before) ≡ Err fault
read-no_name len known tokens fault before wrong agree =
    read-refuses len (λ t. name_misfit (known t.bytes) t) tokens (Opened before) fault wrong (name_same known before agree) tt

-- the number of rows
pub read-rows : (len : ℕ) (tokens : List Token) (rows : ℕ) (rest : List Token) (before : List Table) (name : List ℕ) →
    TakesSize 0 0 tokens rows rest → read len tokens (Named before name) ≡ read len rest (Tall before name rows)
read-rows len tokens rows rest before name (token, (takes, gives)) =
    read-takes len (size_misfit 0 0) tokens token rest (Named before name) takes refl
    ∙ ap (λ n. read len rest (Tall before name n)) (sym gives)

pub read-no_rows : (len : ℕ) (tokens : List Token) (fault : TableFault) (before : List Table) (name : List ℕ) →
    TokenMisfits len (size_misfit 0 0) tokens fault → read len tokens (Named before name) ≡ Err fault
read-no_rows len tokens fault before name wrong =
    read-refuses len (size_misfit 0 0) tokens (Named before name) fault wrong (λ token. refl) tt

-- the number of columns
pub read-cols : (len cells : ℕ) (tokens : List Token) (rows cols : ℕ) (rest : List Token) (before : List Table) (name : List ℕ) →
    TakesSize cells rows tokens cols rest → cells ≡ cells_of before →
    read len tokens (Tall before name rows) ≡ read len rest (filled before name rows cols [] (rows * cols))
read-cols len cells tokens rows cols rest before name (token, (takes, gives)) sum =
    read-takes len (size_misfit cells rows) tokens token rest (Tall before name rows) takes (ap (λ n. size_misfit n rows token) sum)
    ∙ ap (λ n. read len rest (filled before name rows n [] (rows * n))) (sym gives)

pub read-no_cols : (len cells : ℕ) (tokens : List Token) (rows : ℕ) (fault : TableFault) (before : List Table) (name : List ℕ) →
    TokenMisfits len (size_misfit cells rows) tokens fault → cells ≡ cells_of before →
    read len tokens (Tall before name rows) ≡ Err fault
read-no_cols len cells tokens rows fault before name wrong sum =
    read-refuses len (size_misfit cells rows) tokens (Tall before name rows) fault wrong (λ token. ap (λ n. size_misfit n rows token) sum) tt

-- a number of a cell
pub read-number : (len : ℕ) (tokens rest : List Token) (value : ℤ) → TakesNumber tokens value rest →
    (before : List Table) (name : List ℕ) (rows cols : ℕ) (cells : List ℤ) (more : ℕ) →
    read len tokens (filled before name rows cols cells (suc more)) ≡ read len rest (filled before name rows cols (cells ++ value ∷ []) more)
read-number len tokens rest value (token, ((is, fits), gives)) before name rows cols cells more =
    ap (λ ts. read len ts (Filling before name rows cols cells more)) is
    ∙ read-fits len token rest (Filling before name rows cols cells more) fits
    ∙ ap (λ v. read len rest (filled before name rows cols (cells ++ v ∷ []) more)) (sym gives)

-- what is said of a fault that isn't want of memory
pub OnFault-any : (fault : TableFault) (P : Type 0) → P → OnFault fault P
OnFault-any (Form at) P p = p
OnFault-any (Cells at) P p = p
OnFault-any (Repeated at) P p = p
OnFault-any NoMemory P p = tt

pub OnFault-map : (fault : TableFault) (P Q : Type 0) → (P → Q) → OnFault fault P → OnFault fault Q
OnFault-map (Form at) P Q f p = f p
OnFault-map (Cells at) P Q f p = f p
OnFault-map (Repeated at) P Q f p = f p
OnFault-map NoMemory P Q f p = tt
