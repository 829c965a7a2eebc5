-- The symbols of definitions by number, against those of the names.
use Rattle.std.specs.Bool.{Decides}
use Rattle.std.specs.List.{All}
use Rattle.std.proofs.Common.{◌≡◌, ◌&&◌, List, map, nat_eq, refl, sym, ap, ◌∙◌, subst}
use Rattle.std.proofs.lemmas.Bool.Decides.{Decides-like, Decides-and, Decides-eqb, same_from_decides}
use Rattle.ot_logic.specs.Names.{Name}
use Rattle.ot_logic.specs.Naming.{names}
use Rattle.ot_logic.specs.Lists.{IsMember}
use Rattle.ot_logic.specs.Table.{IsInjective}
use Rattle.ot_logic.specs.Trees.{Symbol}
use Rattle.ot_laws.proofs.Tests.{tells_names}
use Rattle.ot_laws.specs.Conditions.{is_among}
use Rattle.ot_laws.proofs.Membership.{any-is, is_among-is}
use Rattle.ot_log_nodes.specs.Items.{Item, name_at}
use Rattle.ot_log_nodes.specs.Changing.{variable_at}
use Rattle.ot_log_nodes.specs.declared.node.VariableNode.{VariableNode}
use Rattle.ot_log_nodes.proofs.ItemLemmas.{name-one, type-one}
use Rattle.ot_log_rules.specs.Parts.{HasMark, mark_at}
use Rattle.ot_log_rules.specs.Symbols.{mark_of, HasSymbols, symbol_of, IsSymbolMark, mark_eq, is_marked}
use Rattle.ot_log_rules.specs.declared.parts.Mark.{Mark}
use Rattle.ot_log_rules.specs.declared.parts.Mark.TheVariants as mark
use Rattle.ot_logic.proofs.Members.{All-at_member, IsMember-map, IsMember-map_back}

-- the test of variables and of marks
variable-is : (v w : VariableNode) → Decides (nat_eq v.name w.name && nat_eq v.ty w.ty) (v ≡ w)
variable-is v w =
    Decides-like (nat_eq v.name w.name && nat_eq v.ty w.ty) (λ p i. record { name = p.0 i; ty = p.1 i })
    (λ e. (ap (λ x. x.name) e, ap (λ x. x.ty) e))
    (Decides-and (nat_eq v.name w.name) (nat_eq v.ty w.ty) (Decides-eqb v.name w.name) (Decides-eqb v.ty w.ty))

pub mark-is : (m k : Mark) → Decides (mark_eq m k) (m ≡ k)
mark-is (mark.TypeVar n) (mark.TypeVar j) = Decides-like (nat_eq n j) (ap mark.TypeVar) (λ e. cc) (Decides-eqb n j)
mark-is (mark.Operator n) (mark.Operator j) = Decides-like (nat_eq n j) (ap mark.Operator) (λ e. cc) (Decides-eqb n j)
mark-is (mark.Constant n) (mark.Constant j) = Decides-like (nat_eq n j) (ap mark.Constant) (λ e. cc) (Decides-eqb n j)
mark-is (mark.Variable v) (mark.Variable w) =
    Decides-like (nat_eq v.name w.name && nat_eq v.ty w.ty) (ap mark.Variable) (λ e. cc) (variable-is v w)
mark-is _ _ = (λ h. cc, λ e. cc)

module _ (ts : List Item) (one : IsInjective ts) where
  -- each mark has one number
  pub mark-one : (m k : Mark) → HasMark ts m → HasMark ts k → mark_at ts m ≡ mark_at ts k → m ≡ k
  mark-one (mark.TypeVar n) (mark.TypeVar j) g h e = let p : name_at ts n ≡ name_at ts j = cc in
      ap mark.TypeVar (name-one ts one n j g h p)
  mark-one (mark.Operator n) (mark.Operator j) g h e = let p : name_at ts n ≡ name_at ts j = cc in
      ap mark.Operator (name-one ts one n j g h p)
  mark-one (mark.Constant n) (mark.Constant j) g h e = let p : name_at ts n ≡ name_at ts j = cc in
      ap mark.Constant (name-one ts one n j g h p)
  mark-one (mark.Variable v) (mark.Variable w) g h e =
      let p : variable_at ts v ≡ variable_at ts w = cc in
      let name = name-one ts one v.name w.name g.0 h.0 (ap (λ x. x.name) p) in
      let type = type-one ts one v.ty w.ty g.1 h.1 (ap (λ x. x.ty) p) in
      λ i. mark.Variable (record { name = name i; ty = type i })
  mark-one _ _ g h e = cc

  -- a symbol's mark
  pub marked-as : (m : Mark) → IsSymbolMark ts m → mark_at ts m ≡ mark_of (symbol_of ts m)
  marked-as (mark.Constant n) h = refl
  marked-as (mark.Operator n) h = refl
  marked-as (mark.TypeVar n) h = absurd h
  marked-as (mark.Variable v) h = absurd h

  pub has-mark : (m : Mark) → IsSymbolMark ts m → HasMark ts m
  has-mark (mark.Constant n) h = h
  has-mark (mark.Operator n) h = h
  has-mark (mark.TypeVar n) h = absurd h
  has-mark (mark.Variable v) h = absurd h

  -- the test of a mark among others is that of its symbol among theirs
  pub marked-among : (m : Mark) (ms : List Mark) (ss : List (Symbol Name)) → IsSymbolMark ts m → All (HasMark ts) ms
      → HasSymbols ss (map (mark_at ts) ms) → is_marked m ms ≡ is_among names (symbol_of ts m) ss
  marked-among m ms ss h has k =
      same_from_decides (is_marked m ms) (is_among names (symbol_of ts m) ss)
      (Decides-like (is_marked m ms)
      (λ i. (k.is (symbol_of ts m)).0
      (subst (λ o. IsMember o (map (mark_at ts) ms)) (marked-as m h) (IsMember-map (mark_at ts) m ms i)))
      (λ i.
      let r = IsMember-map_back (mark_at ts) (mark_of (symbol_of ts m)) ms ((k.is (symbol_of ts m)).1 i) in
      let same : r.0 ≡ m = mark-one r.0 m (All-at_member (HasMark ts) ms r.0 has r.1) (has-mark m h)
      (r.2 ∙ sym (marked-as m h)) in
      subst (λ x. IsMember x ms) same r.1)
      (any-is mark_eq mark-is m ms))
      (is_among-is names tells_names (symbol_of ts m) ss)
