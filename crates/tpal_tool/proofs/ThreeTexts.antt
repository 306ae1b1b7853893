-- Three texts that are written, one behind the other.
use Rattle.std.proofs.Common.{◌++◌, ◌<◌, ℕ, List, [], ◌∷◌, Option, length, refl, arith}
use Rattle.std.specs.Prelude.{◌≢◌, Result, Ok, Err, OnErr}
use Rattle.tpal_tool.specs.Sink.{Appended, PrefixAppended}
use Rattle.tpal_tool.proofs.Appending.{appended_after, prefix_after, prefix_longer}

-- what holds, holds of a failed call
pub on_err : {A E : Type 0} (r : Result A E) {P : Type 0} → P → OnErr r P
on_err (Ok a) p = tt
on_err (Err e) p = p

-- a text with a byte isn't empty, and neither is one with such a part
pub some_bytes : (text : List ℕ) → 0 < length text → text ≢ []
some_bytes [] some is = omega (arith, some)
some_bytes (b ∷ bs) some is = cc

pub some_front : (front back : List ℕ) → front ≢ [] → front ++ back ≢ []
some_front [] back some is = some refl
some_front (b ∷ bs) back some is = cc

pub some_back : (front back : List ℕ) → back ≢ [] → front ++ back ≢ []
some_back [] back some is = some is
some_back (b ∷ bs) back some is = cc

-- the first bytes of the second text, behind the first
pub second_begun : (old mid new : Option (List ℕ)) (one two three : List ℕ) → Appended old mid one → PrefixAppended mid new two → PrefixAppended old new (one ++ two ++ three)
second_begun old mid new one two three a b = prefix_longer old new (one ++ two) three (prefix_after old mid new one two a b)

-- the first bytes of the third text, behind both others
pub third_begun : (old mid next new : Option (List ℕ)) (one two three : List ℕ) → Appended old mid one → Appended mid next two → PrefixAppended next new three → PrefixAppended old new (one ++ two ++ three)
third_begun old mid next new one two three a b c = prefix_after old next new (one ++ two) three (appended_after old mid next one two a b) c
