-- What is known of a word, of a task's end and of its mark; which says less, and what two have in
-- common.
use Rattle.std.specs.Prelude.{ℕ, Bool, true, false, ◌&&◌, ◌==◌, if◌then◌else◌, Option, Some, None}
use Rattle.tpal_verify.specs.declared.kinds.Kind.{Kind}
use Rattle.tpal_verify.specs.declared.kinds.Kind.TheVariants.{Number, Empty, Own, Up, Pend}
use Rattle.tpal_verify.specs.declared.kinds.Kind.TheVariants.{Met, Back, Any}
use Rattle.tpal_verify.specs.declared.kinds.EndFact.{EndFact}
use Rattle.tpal_verify.specs.declared.kinds.EndFact.TheVariants.{Root, Side, Either}
use Rattle.tpal_verify.specs.declared.kinds.MarkFact.{MarkFact}
use Rattle.tpal_verify.specs.declared.kinds.MarkFact.TheVariants.{Marked, Clear, Maybe}

-- ---- tests

abbrev pub is_root : EndFact → Bool
is_root Root = true
is_root Side = false
is_root Either = false

abbrev pub is_side : EndFact → Bool
is_side Root = false
is_side Side = true
is_side Either = false

abbrev pub is_marked : MarkFact → Bool
is_marked Marked = true
is_marked Clear = false
is_marked Maybe = false

abbrev pub is_clear : MarkFact → Bool
is_clear Marked = false
is_clear Clear = true
is_clear Maybe = false

abbrev pub kind_eq : Kind → Kind → Bool
kind_eq Number Number = true
kind_eq Empty Empty = true
kind_eq Own Own = true
kind_eq Up Up = true
kind_eq Pend Pend = true
kind_eq Met Met = true
kind_eq (Back h) (Back j) = h == j
kind_eq Any Any = true
kind_eq _ _ = false

-- ---- the order: what is above says less

-- a kind is below another, in shapes of which the lower has this end
abbrev pub kind_below : EndFact → Kind → Kind → Bool
kind_below e k Any = true
kind_below e Own Up = true
kind_below e Empty Up = is_root e
kind_below e a b = kind_eq a b

abbrev pub end_below : EndFact → EndFact → Bool
end_below e Either = true
end_below Root Root = true
end_below Side Side = true
end_below _ _ = false

abbrev pub mark_below : MarkFact → MarkFact → Bool
mark_below m Maybe = true
mark_below Marked Marked = true
mark_below Clear Clear = true
mark_below _ _ = false

abbrev pub grant_below : Bool → Bool → Bool
grant_below g false = true
grant_below g true = g

abbrev pub met_below : Option ℕ → Option ℕ → Bool
met_below m None = true
met_below None (Some b) = false
met_below (Some a) (Some b) = a == b

-- ---- what holds of both

-- the least kind above both, in shapes with these ends
abbrev pub kind_joined : EndFact → EndFact → Kind → Kind → Kind
kind_joined e f a b =
    if kind_below f b a then a
    else (if kind_below e a b then b
    else (if kind_below e a Up && kind_below f b Up then Up else Any))

abbrev pub end_joined : EndFact → EndFact → EndFact
end_joined e f = if end_below f e then e else Either

abbrev pub mark_joined : MarkFact → MarkFact → MarkFact
mark_joined m n = if mark_below n m then m else Maybe

abbrev pub grant_joined : Bool → Bool → Bool
grant_joined g h = g && h

abbrev pub met_joined : Option ℕ → Option ℕ → Option ℕ
met_joined m n = if met_below n m then m else None

-- ---- what becomes of a kind

-- in both sides of a fork, whose ends are new and which have no record pending or met
abbrev pub parted : Kind → Kind
parted Number = Number
parted Empty = Empty
parted Own = Any
parted Up = Any
parted Pend = Any
parted Met = Any
parted (Back h) = Back h
parted Any = Any

-- in the cells of what a fork leaves over for the join
abbrev pub kept : Kind → Kind
kept Number = Number
kept Empty = Empty
kept Own = Own
kept Up = Up
kept Pend = Any
kept Met = Any
kept (Back h) = Any
kept Any = Any

-- behind a join of the met record
abbrev pub unmet : Kind → Kind
unmet Number = Number
unmet Empty = Empty
unmet Own = Own
unmet Up = Up
unmet Pend = Pend
unmet Met = Any
unmet (Back h) = Back h
unmet Any = Any
