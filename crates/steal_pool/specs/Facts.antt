-- What is known of what lies in the records of a run.
use Rattle.std.specs.Prelude.{◌≡◌, ℕ, false, None}
use Rattle.std.proofs.Common.{sym, ◌∙◌, ap, subst}
use Rattle.tpal_syntax.specs.Listing.{Listing}
use Rattle.tpal_machine.specs.declared.ends.End.{End}
use Rattle.tpal_machine.specs.declared.ends.End.TheVariants as «end»
use Rattle.tpal_machine.specs.declared.ends.Ending.{Ending}
use Rattle.tpal_machine.specs.declared.ends.Ending.TheVariants as ending
use Rattle.tpal_machine.specs.declared.ends.Side.{Side}
use Rattle.tpal_machine.specs.declared.ends.SideName.TheVariants.{Left, Right}
use Rattle.tpal_machine.specs.Keeping.{credit}
use Rattle.tpal_machine.specs.Merge as merging
use Rattle.tpal_machine.specs.Merge.{MergeOf, Joined}
use Rattle.tpal_machine.specs.Owed.{owing}
use Rattle.tpal_machine.specs.Owes.{Owes}
use Rattle.tpal_machine.specs.RestState.{RestState, end_of}
use Rattle.tpal_machine.specs.State.{State}
use Rattle.tpal_machine.specs.Within.{JoinedOwes}
use Rattle.tpal_machine.proofs.Owing.{one_ending}

-- a task that begins has no record, and has saved up nothing towards a fork
pub record Begins (heartbeat : ℕ) (task : State) : Type 0 where
  pub none : task.pending ≡ None
  pub credit : credit heartbeat task.beat ≡ 0

-- A task ends at this end. The first task and the child of a record begin there, as one that claims
-- the child can't see.
abbrev pub HasEnd : ℕ → State → End → Type 0
HasEnd heartbeat task «end».Root = (end_of task.goal ≡ «end».Root) × Begins heartbeat task
HasEnd heartbeat task («end».At k Left) = end_of task.goal ≡ «end».At k Left
HasEnd heartbeat task («end».At k Right) =
    (end_of task.goal ≡ «end».At k Right) × Begins heartbeat task

-- the task behind a rest ends at this end
abbrev pub Keeps : RestState → End → Type 0
Keeps rest e = end_of rest.goal ≡ e

-- a task that begins owes an ending
abbrev pub Owed : Listing → ℕ → State → Ending → Type 0
Owed code heartbeat task e = Owes code heartbeat false 0 task e

-- the outcome of a side as an ending
abbrev pub IsEnding : Side → End → Ending → Type 0
IsEnding out «end».Root e = ⊥
IsEnding out («end».At k side) e = e ≡ ending.At k side out

-- with these endings of its record's two sides a rest merges to a task that owes the last one, or
-- to that one at once
pub record RestOwes (code : Listing) (heartbeat : ℕ) (rest : RestState) (p q e : Ending) : Type 0
  where
    pub left : Side
    pub right : Side
    pub both : Joined
    pub left_is : p ≡ ending.At rest.rec Left left
    pub right_is : q ≡ ending.At rest.rec Right right
    pub merged : MergeOf code rest left right both
    pub owed : JoinedOwes (owing code heartbeat) e both

pub owed_one : (code : Listing) (heartbeat : ℕ) (c : State) (a b : Ending)
    → Owed code heartbeat c a
    → Owed code heartbeat c b
    → a ≡ b
owed_one code heartbeat c a b x y = one_ending code heartbeat false 0 0 c a b x.bound y.bound

pub ending_one : (s : Side) (e : End) (a b : Ending) → IsEnding s e a → IsEnding s e b → a ≡ b
ending_one s «end».Root a b x y = absurd x
ending_one s («end».At k side) a b x y = x ∙ sym y

joined_one : (code : Listing) (heartbeat : ℕ) (both : Joined) (a b : Ending)
    → JoinedOwes (owing code heartbeat) a both
    → JoinedOwes (owing code heartbeat) b both
    → a ≡ b
joined_one code heartbeat (merging.Goes t) a b x y =
    one_ending code heartbeat false 0 0 t a b x.bound y.bound
joined_one code heartbeat (merging.Ends f) a b x y = sym x ∙ y

pub rest_one : (code : Listing) (heartbeat : ℕ) (r : RestState) (p q a b : Ending)
    → RestOwes code heartbeat r p q a
    → RestOwes code heartbeat r p q b
    → a ≡ b
rest_one code heartbeat r p q a b x y =
    let l : x.left ≡ y.left = cc (sym x.left_is ∙ y.left_is) in
    let k : x.right ≡ y.right = cc (sym x.right_is ∙ y.right_is) in
    let same : x.both ≡ y.both =
    sym x.merged.gives ∙ ap (λ s. merging.joined code r s x.right) l
    ∙ ap (λ s. merging.joined code r y.left s) k ∙ y.merged.gives in
    joined_one code heartbeat y.both a b (subst (JoinedOwes (owing code heartbeat) a) same x.owed)
    y.owed
