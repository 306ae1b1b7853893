-- Whole lines and texts read from their front, and labels that are given anew.
use Rattle.std.proofs.Common.{ℕ, List, [], ◌∷◌, Option, Some, None, map}
use Rattle.std.specs.Prelude.{codes}
use Rattle.tpal_syntax.specs.declared.instructions.Value.{Value}
use Rattle.tpal_syntax.specs.declared.instructions.Value.TheVariants.{Reg, Int, Label, Nil}
use Rattle.tpal_syntax.specs.declared.instructions.Instr.{Instr}
use Rattle.tpal_syntax.specs.declared.instructions.Instr.TheVariants.{Move, Calc, IfJump, Load}
use Rattle.tpal_syntax.specs.declared.instructions.Instr.TheVariants.{Store, Salloc, Sfree, PrmPush}
use Rattle.tpal_syntax.specs.declared.instructions.Instr.TheVariants.{PrmPop, PrmDrop, PrmEmpty}
use Rattle.tpal_syntax.specs.declared.instructions.Instr.TheVariants.{PrmSplit, JrAlloc, Fork}
use Rattle.tpal_syntax.specs.declared.instructions.Instr.TheVariants.{Fetch, Put, Rows, Cols, Make}
use Rattle.tpal_syntax.specs.declared.instructions.Instr.TheVariants.{Tick, Trap, Print, Emit}
use Rattle.tpal_syntax.specs.declared.instructions.Term.{Term}
use Rattle.tpal_syntax.specs.declared.instructions.Term.TheVariants.{Jump, Halt, Join, Leave}
use Rattle.tpal_syntax.specs.declared.notes.Note.{Note}
use Rattle.tpal_syntax.specs.declared.notes.Note.TheVariants as note
use Rattle.tpal_syntax.specs.declared.notes.Target.{Target}
use Rattle.tpal_syntax.specs.declared.blocks.Block.{Block}
use Rattle.tpal_syntax.specs.declared.blocks.CodeTable.{CodeTable}
use Rattle.tpal_syntax.specs.declared.blocks.CodeTable.TheVariants.{Input, Made}
use Rattle.tpal_syntax.specs.declared.versions.Version.{Version}
use Rattle.tpal_syntax.specs.declared.versions.Version.TheVariants.{One, Two}
use Rattle.tpal_syntax.specs.Readers.{Reading, ◌>>=◌, after, branch, many, number_at, word_at}
use Rattle.tpal_syntax.specs.Readers.{register_at, table_at, label_at, cell_at, place_at, value_at}
use Rattle.tpal_syntax.specs.Readers.{trap_at, source_at, renames_at, carries_at, policy_at}
use Rattle.tpal_syntax.specs.Readers.{kind_at}

-- ---- instructions, ends and notes

-- what stands behind `rA := `
abbrev pub assigned_at : (List ℕ → ℕ) → ℕ → Reading Instr
assigned_at f to ts =
    branch (after (codes "mem[") ts) (λ us. cell_at ts >>= λ c. Some (Load to c.0.0 c.0.1, c.1))
    (branch (after (codes "jralloc ") ts) (λ us. label_at f us >>= λ l. Some (JrAlloc to l.0, l.1))
    (branch (after (codes "fetch ") ts) (λ us.
    table_at us >>= λ t.
    after (codes ", ") t.1 >>= λ vs.
    register_at vs >>= λ row.
    after (codes ", ") row.1 >>= λ ws.
    register_at ws >>= λ col. Some (Fetch to t.0 row.0 col.0, col.1))
    (branch (after (codes "rows ") ts) (λ us. table_at us >>= λ t. Some (Rows to t.0, t.1))
    (branch (after (codes "cols ") ts) (λ us. table_at us >>= λ t. Some (Cols to t.0, t.1))
    (value_at f ts >>= source_at f to)))))

abbrev pub instr_at : (List ℕ → ℕ) → Reading Instr
instr_at f ts =
    branch (after (codes "r") ts) (λ us.
    number_at 31 us >>= λ to. after (codes " := ") to.1 >>= λ vs. assigned_at f to.0 vs)
    (branch (after (codes "if-jump ") ts) (λ us.
    register_at us >>= λ r.
    after (codes ", ") r.1 >>= λ vs.
    label_at f vs >>= λ l. Some (IfJump r.0 l.0, l.1))
    (branch (after (codes "mem[") ts) (λ us.
    cell_at ts >>= λ c.
    after (codes " := ") c.1 >>= λ vs.
    value_at f vs >>= λ v. Some (Store c.0.0 c.0.1 v.0, v.1))
    (branch (after (codes "salloc ") ts) (λ us. number_at 512 us >>= λ n. Some (Salloc n.0, n.1))
    (branch (after (codes "sfree ") ts) (λ us. number_at 512 us >>= λ n. Some (Sfree n.0, n.1))
    (branch (after (codes "prmpush ") ts) (λ us.
    cell_at us >>= λ c.
    after (codes ", ") c.1 >>= λ vs.
    number_at 512 vs >>= λ n.
    after (codes ", ") n.1 >>= λ ws.
    label_at f ws >>= λ l. Some (PrmPush c.0.0 c.0.1 n.0 l.0, l.1))
    (branch (after (codes "prmpop ") ts) (λ us. cell_at us >>= λ c. Some (PrmPop c.0.0 c.0.1, c.1))
    (branch (after (codes "prmdrop") ts) (λ us. Some (PrmDrop, us))
    (branch (after (codes "prmempty ") ts) (λ us. register_at us >>= λ r. Some (PrmEmpty r.0, r.1))
    (branch (after (codes "prmsplit ") ts) (λ us.
    register_at us >>= λ a.
    after (codes ", ") a.1 >>= λ vs.
    register_at vs >>= λ b. Some (PrmSplit a.0 b.0, b.1))
    (branch (after (codes "fork ") ts) (λ us.
    register_at us >>= λ r.
    after (codes ", ") r.1 >>= λ vs.
    label_at f vs >>= λ l. Some (Fork r.0 l.0, l.1))
    (branch (after (codes "put ") ts) (λ us.
    table_at us >>= λ t.
    after (codes ", ") t.1 >>= λ vs.
    register_at vs >>= λ row.
    after (codes ", ") row.1 >>= λ ws.
    register_at ws >>= λ col.
    after (codes ", ") col.1 >>= λ xs.
    register_at xs >>= λ v. Some (Put t.0 row.0 col.0 v.0, v.1))
    (branch (after (codes "make ") ts) (λ us.
    table_at us >>= λ t.
    after (codes ", ") t.1 >>= λ vs.
    register_at vs >>= λ row.
    after (codes ", ") row.1 >>= λ ws.
    register_at ws >>= λ col.
    after (codes ", ") col.1 >>= λ xs.
    place_at xs >>= λ p. Some (Make t.0 row.0 col.0 p.0, p.1))
    (branch (after (codes "tick") ts) (λ us. Some (Tick, us))
    (branch (after (codes "trap ") ts) (λ us.
    trap_at us >>= λ k. place_at k.1 >>= λ p. Some (Trap k.0 p.0, p.1))
    (branch (after (codes "print ") ts) (λ us. register_at us >>= λ r. Some (Print r.0, r.1))
    (branch (after (codes "emit ") ts) (λ us. table_at us >>= λ t. Some (Emit t.0, t.1))
    None))))))))))))))))

abbrev pub term_at : (List ℕ → ℕ) → Reading Term
term_at f ts =
    branch (after (codes "jump ") ts) (λ us. value_at f us >>= λ v. Some (Jump v.0, v.1))
    (branch (after (codes "halt") ts) (λ us. Some (Halt, us))
    (branch (after (codes "join ") ts) (λ us. register_at us >>= λ r. Some (Join r.0, r.1))
    (branch (after (codes "leave ") ts) (λ us.
    register_at us >>= λ r.
    after (codes ", ") r.1 >>= λ vs. register_at vs >>= λ q. Some (Leave r.0 q.0, q.1)) None)))

abbrev pub target_at : (List ℕ → ℕ) → ℕ → Reading Target
target_at f n ts =
    policy_at ts >>= λ p.
    renames_at n p.1 >>= λ r.
    after (codes "; @") r.1 >>= λ us.
    word_at us >>= λ w.
    after (codes "; ") w.1 >>= λ vs. kind_at vs >>= λ k. carries_at n k.1 >>= λ c.
    Some (record { comm = p.0; renames = r.0; comb = f w.0; kind = k.0; carries = c.0 }, c.1)

unfoldable pub note_at : (List ℕ → ℕ) → ℕ → Reading Note
note_at f n ts =
    branch (after (codes "plain") ts) (λ us. Some (note.Plain, us))
    (branch (after (codes "prppt @") ts) (λ us. word_at us >>= λ w. Some (note.Ready (f w.0), w.1))
    (branch (after (codes "jtppt ") ts)
    (λ us. target_at f n us >>= λ t. Some (note.Target t.0, t.1)) None))

-- ---- whole texts

abbrev pub instr_line_at : (List ℕ → ℕ) → Reading Instr
instr_line_at f ts =
    after (codes "  ") ts >>= λ us.
    instr_at f us >>= λ i. after (10 ∷ []) i.1 >>= λ vs. Some (i.0, vs)

abbrev pub term_line_at : (List ℕ → ℕ) → Reading Term
term_line_at f ts =
    after (codes "  ") ts >>= λ us.
    term_at f us >>= λ t. after (10 ∷ []) t.1 >>= λ vs. Some (t.0, vs)

-- what stands behind a block's number, which is not compared
unfoldable pub behind_number : Version → List ℕ → Option (List ℕ)
behind_number One ts = Some ts
behind_number Two ts = after (codes " #") ts >>= λ us. number_at 65535 us >>= λ n. Some n.1

abbrev pub block_at : Version → (List ℕ → ℕ) → ℕ → Reading Block
block_at v f n ts =
    word_at ts >>= λ w.
    behind_number v w.1 >>= λ ms.
    after (codes ": ") ms >>= λ us.
    note_at f n us >>= λ x.
    after (10 ∷ []) x.1 >>= λ vs.
    many n (instr_line_at f) vs >>= λ is. term_line_at f is.1 >>= λ t.
    Some (record { name = w.0; note = x.0; body = is.0; term = t.0 }, t.1)

-- the line of a table; its number is not compared
abbrev pub table_line_at : Reading CodeTable
table_line_at ts = after (codes "table t") ts >>= λ us. number_at 15 us >>= λ n.
    branch (after (codes " made") n.1) (λ vs. after (10 ∷ []) vs >>= λ ws. Some (Made, ws))
    (after (codes " input ") n.1 >>= λ vs.
    word_at vs >>= λ w. after (10 ∷ []) w.1 >>= λ ws. Some (Input w.0, ws))

-- the lines of a text, behind its first line
abbrev pub code_at : Version → (List ℕ → ℕ) → ℕ → List ℕ → Option (List CodeTable × List Block)
code_at v f n ts =
    many n table_line_at ts >>= λ t. many n (block_at v f n) t.1 >>= λ b. Some (t.0, b.0)

-- ---- labels that are given anew

abbrev pub relabel_value : (ℕ → ℕ) → Value → Value
relabel_value h (Reg r) = Reg r
relabel_value h (Int z) = Int z
relabel_value h (Label l) = Label (h l)
relabel_value h Nil = Nil

abbrev pub relabel : (ℕ → ℕ) → Instr → Instr
relabel h (Move to value) = Move to (relabel_value h value)
relabel h (Calc to left op right) = Calc to left op (relabel_value h right)
relabel h (IfJump test label) = IfJump test (h label)
relabel h (Load to base off) = Load to base off
relabel h (Store base off value) = Store base off (relabel_value h value)
relabel h (Salloc n) = Salloc n
relabel h (Sfree n) = Sfree n
relabel h (PrmPush base off cells split) = PrmPush base off cells (h split)
relabel h (PrmPop base off) = PrmPop base off
relabel h PrmDrop = PrmDrop
relabel h (PrmEmpty r) = PrmEmpty r
relabel h (PrmSplit base split) = PrmSplit base split
relabel h (JrAlloc to target) = JrAlloc to (h target)
relabel h (Fork rec child) = Fork rec (h child)
relabel h (Fetch to table row col) = Fetch to table row col
relabel h (Put table row col value) = Put table row col value
relabel h (Rows to table) = Rows to table
relabel h (Cols to table) = Cols to table
relabel h (Make table rows cols place) = Make table rows cols place
relabel h Tick = Tick
relabel h (Trap kind place) = Trap kind place
relabel h (Print r) = Print r
relabel h (Emit table) = Emit table

abbrev pub relabel_term : (ℕ → ℕ) → Term → Term
relabel_term h (Jump value) = Jump (relabel_value h value)
relabel_term h Halt = Halt
relabel_term h (Join r) = Join r
relabel_term h (Leave rec value) = Leave rec value

abbrev pub relabel_note : (ℕ → ℕ) → Note → Note
relabel_note h note.Plain = note.Plain
relabel_note h (note.Ready handler) = note.Ready (h handler)
relabel_note h (note.Target t) =
    note.Target (record {
      comm = t.comm;
      renames = t.renames;
      comb = h t.comb;
      kind = t.kind;
      carries = t.carries;
    })

abbrev pub relabel_block : (ℕ → ℕ) → Block → Block
relabel_block h b =
    record {
      name = b.name;
      note = relabel_note h b.note;
      body = map (relabel h) b.body;
      term = relabel_term h b.term;
    }
