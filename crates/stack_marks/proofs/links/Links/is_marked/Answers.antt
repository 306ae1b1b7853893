use Rattle.std.proofs.Common.{◌≡◌, ◌≢◌, ◌-◌, ◌≤◌, ◌<◌, Bool, true, false, get_or, length, subst}
use Rattle.std.proofs.Common.{sym, ap, ◌∙◌, arith, refl}
use Rattle.std.specs.Prelude.{Any, All}
use Rattle.std.specs.Bool.{OnTrue, OnFalse}
use Rattle.stack_marks.specs.declared.links.Link.{Link}
use Rattle.stack_marks.specs.Linked.{bare}
use Rattle.stack_marks.proofs.Chains.{marked_there, bare_there, link_any}
use Rattle.stack_marks.proofs.links.Links.is_marked.Goals as goal

on_true : (b : Bool) (P : Type 0) → (b ≡ true → P) → OnTrue b P
on_true true P f = f refl
on_true false P f = tt

on_false : (b : Bool) (P : Type 0) → (b ≡ false → P) → OnFalse b P
on_false true P f = tt
on_false false P f = f refl

pub returns-then-index-len-clause-yes : goal.returns-then-index-len-clause-yes
returns-then-index-len-clause-yes c =
    let s = c.self.inside in
    let low : s.lowest ≤ c.args.at = subst (λ v. v.lowest ≤ c.args.at) (sym c.self.view_is) c.requires in
    let high : c.args.at - s.lowest < length s.links.items = omega (arith, c.if-index-len.true, c.len.ensures, s.links.ok.0) in
    let read : c.index.result.now ≡ get_or s.links.items (c.args.at - s.lowest) bare = c.index.ensures ∙ link_any s.links.items (c.args.at - s.lowest) c.index.result.now bare high in
    on_true c.index.result.now.marked _ (λ e. subst (λ v. Any (λ m. m.at ≡ c.args.at) v.marks) c.self.view_is (marked_there s.lowest s.links.items c.args.at low high (ap (λ (z : Link). z.marked) (sym read) ∙ e)))

pub returns-then-index-len-clause-no : goal.returns-then-index-len-clause-no
returns-then-index-len-clause-no c =
    let s = c.self.inside in
    let high : c.args.at - s.lowest < length s.links.items = omega (arith, c.if-index-len.true, c.len.ensures, s.links.ok.0) in
    let read : c.index.result.now ≡ get_or s.links.items (c.args.at - s.lowest) bare = c.index.ensures ∙ link_any s.links.items (c.args.at - s.lowest) c.index.result.now bare high in
    on_false c.index.result.now.marked _ (λ e. subst (λ v. All (λ m. m.at ≢ c.args.at) v.marks) c.self.view_is (bare_there s.lowest s.links.items c.args.at (λ _. ap (λ (z : Link). z.marked) (sym read) ∙ e)))

pub returns-else-index-len-clause-no : goal.returns-else-index-len-clause-no
returns-else-index-len-clause-no c =
    let s = c.self.inside in
    on_false _ _ (λ _. subst (λ v. All (λ m. m.at ≢ c.args.at) v.marks) c.self.view_is (bare_there s.lowest s.links.items c.args.at (λ h. absurd (omega (arith, h, c.if-index-len.false, c.len.ensures, s.links.ok.0)))))
