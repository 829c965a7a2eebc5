use Rattle.std.proofs.Common.{◌≡◌, ℕ, List, None, rules, sym, ap, subst}
use Rattle.indexmap.specs.IndexMap.{IndexMap, get, index_of}
use Rattle.indexmap.proofs.MapLemmas.{Missing-position}
use Rattle.ot_logic.specs.Trees.{Ty}
use Rattle.ot_class.specs.Class.{ClassTable, IsNumberOf}
use Rattle.ot_term.specs.TermTable.{terms_of, IsTermSound}
use Rattle.ot_term.specs.Classing.{form_class, IsFormBelow}
use Rattle.ot_term.specs.declared.table.Form.{Form}
use Rattle.ot_term.specs.declared.table.NodeInfo.{NodeInfo}
use Rattle.ot_term.specs.declared.term.TermNode.{TermNode}
use Rattle.ot_term.proofs.NamesIn.{names_in_terms-push}
use Rattle.ot_term.proofs.TermTableLemmas.{node_eq, PushedTerm, sound-classes, classes_below, found_term, put_in}
use Rattle.ot_term.proofs.TermTableLemmas.{number_new}
use Rattle.ot_term.proofs.table.Terms.intern.Goals as goal

sound_still : (tys : List (Ty ℕ)) (cs : ClassTable) (es new : List (TermNode × NodeInfo)) → es ≡ new
    → IsTermSound tys cs es (terms_of tys es) → IsTermSound tys cs new (terms_of tys new)
sound_still tys cs es new same = subst (λ es. IsTermSound tys cs es (terms_of tys es)) same

pub returns-in-Some-clause-ok : goal.returns-in-Some-clause-ok
returns-in-Some-clause-ok c =
    found_term _ _ c.self.inside.nodes c.self.invariant c.args.node c.args.self.now c.self.view_is c.in-Some.index
    (sym c.in-Some.ensures.index)

pub class_of-requires : goal.class_of-requires
class_of-requires c =
    subst (IsFormBelow _) (sym c.with_classes-form.ensures)
    (classes_below _ _ c.self.inside.nodes c.self.invariant c.args.self.now c.self.view_is c.args.node
    c.requires.below)

pub invariant_of-self : goal.invariant_of-self
invariant_of-self c = sound-classes _ _ _ _ _ c.class_of.ensures.grows c.class_of.ensures.once c.self.invariant

pub invariant_of-self-in_err-index-in-None : goal.invariant_of-self-in_err-index-in-None
invariant_of-self-in_err-index-in-None c =
    sound_still _ _ c.self.inside.nodes.entries _ (sym (ap (λ m. m.entries) c.in_err-index-in-None.ensures.err))
    (sound-classes _ _ _ _ _ c.class_of.ensures.grows c.class_of.ensures.once c.self.invariant)

-- a node that isn't found isn't there
absent : {S : Type 0} (m : IndexMap TermNode NodeInfo S) (n : TermNode) → None ≡ index_of node_eq m n
    → get node_eq m n ≡ None
absent m n p = (Missing-position (node_eq n) m.entries (sym p)).value

-- what the insert leaves
left : (c : goal.In_ok-index-in-None) → PushedTerm c.self.inside.types c.class_of.new.classes
    c.self.inside.nodes.entries c.args.self.now c.args.node c.insert_full.new.self.entries
left c =
    put_in _ _ c.self.inside.nodes c.self.invariant c.args.self.now c.self.view_is c.args.node c.class_of.new.classes
    c.class_of.ensures.grows c.class_of.ensures.once
    (record { ty = c.args.ty; depth = c.args.depth; class = c.in_ok-class-in-None.class }) c.requires.below
    c.requires.suits
    (subst (λ (f : Form). IsNumberOf c.class_of.new.classes (form_class c.self.inside.classes f)
    c.in_ok-class-in-None.class) c.with_classes-form.ensures c.in_ok-class-in-None.ensures.ok)
    (absent c.self.inside.nodes c.args.node c.in-None.ensures.index) c.insert_full.new.self.entries
    c.in_ok-index-in-None.ensures.entries

pub invariant_of-self-in-None : goal.invariant_of-self-in-None
invariant_of-self-in-None c = (left c).sound

pub returns-in_ok-index-in-None : goal.returns-in_ok-index-in-None
returns-in_ok-index-in-None c =
    let put = left c in
    let last = number_new c.self.inside.nodes c.args.node
    (absent c.self.inside.nodes c.args.node c.in-None.ensures.index) c.in_ok-index-in-None.index
    c.in_ok-index-in-None.ensures.index in
    record {
      grows = put.grows;
      ok = rw last put.last;
      types = ap (λ t. t.types) c.self.view_is;
      names = rw put.trees (names_in_terms-push _ _);
      err = tt;
      table = put.sound.table;
    }
