use Rattle.std.specs.Prelude.{is_some, if◌then◌else◌, not}
use Rattle.std.proofs.Common.{◌≡◌, Some, None, Bool, true, false, cond, refl, sym, ap, ◌∙◌}
use Rattle.ot_term.proofs.Distinct.{key_eq}
use Rattle.ot_term.specs.declared.term.VarKey.{VarKey}
use Rattle.ot_define.specs.Given.{kept}
use Rattle.ot_define.proofs.Giving.{keeps-none, keeps-more}
use Rattle.ot_define.proofs.lists.add_given.Goals as goal

twice : {X : Type 0} (b : Bool) (x y z : X) → cond b x (cond b y z) ≡ cond b x z
twice true x y z = refl
twice false x y z = refl

pub returns-in_default : goal.returns-in_default
returns-in_default c =
    λ before keeps. keeps-none c.args.terms.now.types c.args.terms.now.terms before c.args.hyp c.args.all.now.entries
    keeps (sym c.in_default.ensures.given)

pub returns-then-is_none : goal.returns-then-is_none
returns-then-is_none c =
    let tys = c.args.terms.now.types in
    let v = c.in-Some.v in
    let t = c.in-Some.t in
    let old = c.args.all.now.entries in
    let first : is_some (kept old v) ≡ false =
    ap is_some (sym c.in_ok-insert.ensures.old) ∙ c.is_none.ensures ∙ ap not c.if-is_none.true in
    λ before keeps. keeps-more tys c.args.terms.now.terms before c.args.hyp old keeps
    c.types-types.ensures.table.types.injective v t c.in-Some.ensures.inside.0 c.in-Some.ensures.inside.1
    (sym c.in-Some.ensures.given) c.insert.new.self.entries (Some t)
    (ap (λ b. if b then None else Some t) (sym first)) c.in_ok-insert.ensures.updates.0

pub returns : goal.returns
returns c =
    let tys = c.args.terms.now.types in
    let v = c.in-Some.v in
    let t = c.in-Some.t in
    let old = c.args.all.now.entries in
    let new = c.insert-2.new.self.entries in
    let second : is_some (kept old v) ≡ true =
    ap is_some (sym c.in_ok-insert.ensures.old) ∙ c.is_none.ensures ∙ ap not c.if-is_none.false in
    let over : (q : VarKey) → kept new q ≡ cond (key_eq v q) (Some None) (kept old q) =
    λ q. c.in_ok-insert-2.ensures.updates.0 q
    ∙ ap (cond (key_eq v q) (Some None)) (c.in_ok-insert.ensures.updates.0 q)
    ∙ twice (key_eq v q) (Some None) (Some (Some t)) (kept old q) in
    λ before keeps. keeps-more tys c.args.terms.now.terms before c.args.hyp old keeps
    c.types-types.ensures.table.types.injective v t c.in-Some.ensures.inside.0 c.in-Some.ensures.inside.1
    (sym c.in-Some.ensures.given) new None (ap (λ b. if b then None else Some t) (sym second)) over
