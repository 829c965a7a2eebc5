-- Function types and equations in the table.
use Rattle.std.specs.Prelude.{MatchOption, ◌≢◌}
use Rattle.std.proofs.Common.{◌≡◌, ℕ, Bool, true, false, cond, List, [], ◌∷◌}
use Rattle.std.proofs.Common.{Option, None, Some, refl, sym, ap, subst, ◌∙◌}
use Rattle.std.specs.List.{All}
use Rattle.std.proofs.lemmas.List.Elements.{All-head, All-tail}
use Rattle.ot_logic.specs.Names.{same_name, same_name-Decides}
use Rattle.ot_logic.specs.Naming.{names}
use Rattle.ot_logic.specs.Table.{Extends, IsInjective}
use Rattle.ot_logic.proofs.TableLemmas.{Extends-trans}
use Rattle.ot_logic.specs.Trees.{TyOp, Con, App}
use Rattle.ot_logic.specs.Hol.{as_fun_ty, fun_ty, bool_ty, equation}
use Rattle.ot_log_nodes.specs.Items.{Item, HasName, HasType, HasTerm, IsName, IsType, IsTerm}
use Rattle.ot_log_nodes.specs.Items.{name_at, type_at, term_at, types_at, first_items}
use Rattle.smallvec.specs.SmallVec.{SmallVec}
use Rattle.ot_log_nodes.specs.Shapes.{IsFunction}
use Rattle.ot_log_nodes.specs.Table.{type_tree, HasTypeParts}
use Rattle.ot_log_nodes.specs.declared.node.TypeNode.{TypeNode}
use Rattle.ot_log_nodes.specs.declared.node.TypeNode.TheVariants as ty
use Rattle.ot_log_nodes.proofs.ItemLemmas.{name-is, type-is, term-is, has-name, type-stays, term-stays, name-one}

-- ---- the primitive names
module _ (ts : List Item) (first : Extends first_items ts) where
  pub is-arrow : IsName ts 0 names.arrow
  is-arrow = first.keeps 0 _ refl

  pub is-bool : IsName ts 1 names.bool_name
  is-bool = first.keeps 1 _ refl

  pub is-equals : IsName ts 2 names.equals
  is-equals = first.keeps 2 _ refl

  pub has-arrow : HasName ts 0
  has-arrow = has-name ts 0 names.arrow is-arrow

  pub has-bool : HasName ts 1
  has-bool = has-name ts 1 names.bool_name is-bool

  pub has-equals : HasName ts 2
  has-equals = has-name ts 2 names.equals is-equals

  pub name-arrow : name_at ts 0 ≡ names.arrow
  name-arrow = name-is ts 0 names.arrow is-arrow

  pub name-bool : name_at ts 1 ≡ names.bool_name
  name-bool = name-is ts 1 names.bool_name is-bool

  pub name-equals : name_at ts 2 ≡ names.equals
  name-equals = name-is ts 2 names.equals is-equals

  -- ---- function types
  module _ (one : IsInjective ts) (n : ℕ) (here : HasName ts n) where
    not_arrow : (n ≡ 0 → ⊥) → same_name (name_at ts n) names.arrow ≡ false
    not_arrow apart = by (same_name (name_at ts n) names.arrow) refl
      where
        by : (b : Bool) → same_name (name_at ts n) names.arrow ≡ b → b ≡ false
        by true e =
            absurd (apart
            (name-one ts one n 0 here has-arrow ((same_name-Decides (name_at ts n) names.arrow).0 e
            ∙ sym name-arrow)))
        by false e = refl

    pub no-function : (xs : List ℕ) → ((a b : ℕ) → n ≡ 0 → xs ≢ a ∷ b ∷ [])
        → as_fun_ty names (TyOp (name_at ts n) (types_at ts xs)) ≡ None
    no-function [] h = refl
    no-function (i ∷ []) h = refl
    no-function (i ∷ j ∷ []) h =
        ap (λ b. cond b (Some (type_at ts i, type_at ts j)) None) (not_arrow (λ e. h i j e refl))
    no-function (i ∷ j ∷ k ∷ xs) h = refl

    pub function-parts : (id a b : ℕ) (xs : List ℕ) → All (HasType ts) xs
        → type_at ts id ≡ TyOp (name_at ts n) (types_at ts xs) → n ≡ 0 → xs ≡ a ∷ b ∷ [] → IsFunction ts id a b
    function-parts id a b xs each tree zero two =
        let both : All (HasType ts) (a ∷ b ∷ []) = subst (All (HasType ts)) two each in
        let arrow : name_at ts n ≡ names.arrow = ap (name_at ts) zero ∙ name-arrow in
        record {
          is =
              ap (as_fun_ty names) (tree ∙ (λ i. TyOp (name_at ts n) (types_at ts (two i))))
              ∙ ap (λ q. cond q (Some (type_at ts a, type_at ts b)) None)
              ((same_name-Decides (name_at ts n) names.arrow).1 arrow);
          from = All-head (HasType ts) a (b ∷ []) both;
          to = All-head (HasType ts) b [] (All-tail (HasType ts) a (b ∷ []) both);
        }

-- the answer on an operator, by its arguments
pub as_fun-answer : (ts : List Item) → Extends first_items ts → IsInjective ts
    → (id : ℕ) (node : TypeNode) (n : ℕ) (args : SmallVec ℕ) (xs : List ℕ) → node ≡ ty.Op n args → xs ≡ args.items
    → type_at ts id ≡ type_tree ts node → HasTypeParts ts node → (r : Option (ℕ × ℕ))
    → MatchOption r ((a b : ℕ) → n ≡ 0 → xs ≢ a ∷ b ∷ []) (λ p. (n ≡ 0) × (xs ≡ p.0 ∷ p.1 ∷ []))
    → MatchOption r (as_fun_ty names (type_at ts id) ≡ None) (λ p. IsFunction ts id p.0 p.1)
as_fun-answer ts first one id node n args xs is items tree parts None m =
    let known = subst (HasTypeParts ts) is parts in
    ap (as_fun_ty names) (tree ∙ ap (type_tree ts) is ∙ ap (λ (l : List ℕ). TyOp (name_at ts n) (types_at ts l))
    (sym items)) ∙ no-function ts first one n known.0 xs m
as_fun-answer ts first one id node n args xs is items tree parts (Some p) m =
    let known = subst (HasTypeParts ts) is parts in
    function-parts ts first one n known.0 id p.0 p.1 xs (subst (All (HasType ts)) (sym items) known.1)
    (tree ∙ ap (type_tree ts) is ∙ ap (λ (l : List ℕ). TyOp (name_at ts n) (types_at ts l)) (sym items)) m.0 m.1

-- ---- the equation of two terms, made step by step: each table extends the one before
module _ (k l m n o p : List Item) (kl : Extends k l) (lm : Extends l m) (mn : Extends m n) (no : Extends n o)
    (op : Extends o p) where
  pub equation-tree : (ty a b boolean predicate relation equals half : ℕ) → Extends first_items n → HasType k ty
      → HasTerm k a → HasTerm k b → IsType l boolean (bool_ty names)
      → IsType m predicate (fun_ty names (type_at l ty) (type_at l boolean))
      → IsType n relation (fun_ty names (type_at m ty) (type_at m predicate)) → IsTerm o equals
      (Con (name_at n 2) (type_at n relation)) → IsTerm p half (App (term_at o equals) (term_at o a))
      → App (term_at p half) (term_at p b) ≡ equation names (type_at k ty) (term_at k a) (term_at k b)
  equation-tree ty a b boolean predicate relation equals half first here_ty here_a here_b is_bool is_predicate
      is_relation is_constant is_half =
      let km = Extends-trans kl lm in
      let kn = Extends-trans km mn in
      let ko = Extends-trans kn no in
      let kp = Extends-trans ko op in
      let ty_l = type-stays k l kl ty here_ty in
      let ty_m = type-stays k m km ty here_ty in
      let a_o = term-stays k o ko a here_a in
      let b_p = term-stays k p kp b here_b in
      let bool = type-is l boolean _ is_bool in
      let pred : type_at m predicate ≡ fun_ty names (type_at k ty) (bool_ty names) =
      type-is m predicate _ is_predicate ∙ (λ i. fun_ty names (ty_l i) (bool i)) in
      let rel : type_at n relation ≡ fun_ty names (type_at k ty) (fun_ty names (type_at k ty) (bool_ty names)) =
      type-is n relation _ is_relation ∙ (λ i. fun_ty names (ty_m i) (pred i)) in
      let equal = name-equals n first in
      let constant : term_at o equals
      ≡ Con names.equals (fun_ty names (type_at k ty) (fun_ty names (type_at k ty) (bool_ty names))) =
      term-is o equals _ is_constant ∙ (λ i. Con (equal i) (rel i)) in
      let left : term_at p half
      ≡ App (Con names.equals (fun_ty names (type_at k ty) (fun_ty names (type_at k ty) (bool_ty names)))) (term_at k a) =
      term-is p half _ is_half ∙ (λ i. App (constant i) (a_o i)) in
      λ i. App (left i) (b_p i)
