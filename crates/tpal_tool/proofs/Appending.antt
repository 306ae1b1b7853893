-- Texts appended one after the other, and the first bytes of a text.
use Rattle.std.proofs.Common.{◌++◌, ℕ, List, [], Option, Some, None, refl, ap, sym, subst, ◌∙◌}
use Rattle.std.proofs.Common.{append_assoc, append-nil}
use Rattle.std.specs.Io.KnownBytes.{Appends}
use Rattle.tpal_tool.specs.Sink.{Appended, PrefixAppended}

-- where nothing is written, nothing is appended
pub appended_nothing : (first : Option (List ℕ)) → Appended first first []
appended_nothing None = tt
appended_nothing (Some bytes) = ap Some (sym (append-nil bytes))

-- what a writer of std appends, where its bytes are known
pub appended_known : (old new : Option (List ℕ)) (text : List ℕ) → Appends old new text → Appended old new text
appended_known None new text a = tt
appended_known (Some bytes) None text a = elim a [ ]
appended_known (Some bytes) (Some more) text a = ap Some a

-- one text, and then another
pub appended_after : (first now next : Option (List ℕ)) (one two : List ℕ) → Appended first now one → Appended now next two → Appended first next (one ++ two)
appended_after None now next one two a b = tt
appended_after (Some bytes) now next one two a b =
    let P : Option (List ℕ) → Type 0 = λ told. Appended told next two in
    subst P a b ∙ ap Some (append_assoc bytes one two)

-- one text, and then the first bytes of another
pub prefix_after : (first now next : Option (List ℕ)) (one two : List ℕ) → Appended first now one → PrefixAppended now next two → PrefixAppended first next (one ++ two)
prefix_after None now next one two a b = tt
prefix_after (Some bytes) now next one two a b =
    let P : Option (List ℕ) → Type 0 = λ told. PrefixAppended told next two in
    let part : PrefixAppended (Some (bytes ++ one)) next two = subst P a b in (
      one ++ part.0,
      record { rest = part.1.rest; whole = append_assoc one part.0 part.1.rest ∙ ap (λ whole. one ++ whole) part.1.whole },
      part.2 ∙ ap Some (append_assoc bytes one part.0),
    )

-- the first bytes of a text are those of a longer one
pub prefix_longer : (old new : Option (List ℕ)) (one two : List ℕ) → PrefixAppended old new one → PrefixAppended old new (one ++ two)
prefix_longer None new one two a = tt
prefix_longer (Some bytes) new one two a = (
  a.0,
  record { rest = a.1.rest ++ two; whole = sym (append_assoc a.0 a.1.rest two) ∙ ap (λ whole. whole ++ two) a.1.whole },
  a.2,
)

-- nothing is the first bytes of any text
pub prefix_nothing : (old new : Option (List ℕ)) (text : List ℕ) → Appended old new [] → PrefixAppended old new text
prefix_nothing None new text a = tt
prefix_nothing (Some bytes) new text a = ([], record { rest = text; whole = refl }, a)
