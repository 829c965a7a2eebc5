-- What occurs in a term, against what is asked of terms of definitions.
use Rattle.std.specs.Bool.{Decides}
use Rattle.std.specs.List.{All, list_any, list_all}
use Rattle.std.proofs.Common.{◌≡◌, ℕ, Bool, List, [], ◌∷◌, map, nat_eq, refl, sym, ap, subst, inl, inr}
use Rattle.std.proofs.lemmas.Bool.Decides.{Decides-like, Decides-and, Decides-eqb, same_from_decides}
use Rattle.std.proofs.lemmas.List.Elements.{All-head, All-tail}
use Rattle.ot_logic.specs.Names.{Name}
use Rattle.ot_logic.specs.Naming.{names}
use Rattle.ot_logic.specs.Lists.{IsMember, IsPart, AreDistinct}
use Rattle.ot_logic.specs.Table.{IsInjective}
use Rattle.ot_logic.specs.Trees.{Ty, Variable, Tm}
use Rattle.ot_logic.specs.Hol.{same_var, vars_ty, vars_tm, type_of, IsFree}
use Rattle.ot_laws.specs.Conditions.{are_distinct, are_names_of, is_closed_but, keeps_type_vars}
use Rattle.ot_laws.proofs.Tests.{tells_names, same_var-is}
use Rattle.ot_laws.proofs.Membership.{any-is, are_names_of-is, is_closed_but-is, are_distinct-is}
use Rattle.ot_log_nodes.specs.Items.{Item, HasName, name_at}
use Rattle.ot_log_nodes.specs.Changing.{variable_at, HasVariable}
use Rattle.ot_log_nodes.specs.declared.node.VariableNode.{VariableNode}
use Rattle.ot_log_nodes.proofs.ItemLemmas.{name-one, type-one}
use Rattle.ot_log_rules.specs.Parts.{TypeVar, FreeVar, marks_ty, marks_tm, HasMark, mark_at, marks_at, IsOf}
use Rattle.ot_log_rules.specs.Symbols.{mark_eq}
use Rattle.ot_log_rules.specs.Conditions.{same_variable, is_allowed, is_var_of, is_kept_var}
use Rattle.ot_log_rules.specs.Definitions.{names_at}
use Rattle.ot_log_rules.specs.declared.parts.Mark.{Mark}
use Rattle.ot_log_rules.specs.declared.parts.Mark.TheVariants as mark
use Rattle.ot_log_rules.specs.declared.parts.Parts.{Parts}
use Rattle.ot_log_rules.proofs.Marked.{free-from_mark, mark-from_free, var-from_term}
use Rattle.ot_log_rules.proofs.Marked.{term-from_var, var-from_mark, mark-from_var}
use Rattle.ot_log_rules.proofs.Signed.{mark-is}
use Rattle.ot_logic.proofs.Members.{All-at_member, IsMember-map, IsMember-map_back}

-- ---- tests of each mark
all-decides : {X : Type 0} (p : X → Bool) (P : X → Type 0) → ((x : X) → Decides (p x) (P x)) → (xs : List X)
    → Decides (list_all p xs) ((x : X) → IsMember x xs → P x)
all-decides {X} p P is [] = (λ h x m. absurd m, λ h. refl)
all-decides {X} p P is (x ∷ xs) =
    Decides-like (list_all p (x ∷ xs)) join split (Decides-and (p x) (list_all p xs) (is x) (all-decides p P is xs))
  where
    join : P x × ((y : X) → IsMember y xs → P y) → (y : X) → IsMember y (x ∷ xs) → P y
    join h y (inl e) = subst P e h.0
    join h y (inr m) = h.1 y m

    split : ((y : X) → IsMember y (x ∷ xs) → P y) → P x × ((y : X) → IsMember y xs → P y)
    split h = (h x (inl refl), λ y m. h y (inr m))

pub same-variable-is : (v w : VariableNode) → Decides (same_variable v w) (v ≡ w)
same-variable-is v w =
    Decides-like (same_variable v w) (λ p i. record { name = p.0 i; ty = p.1 i })
    (λ e. (ap (λ x. x.name) e, ap (λ x. x.ty) e))
    (Decides-and (nat_eq v.name w.name) (nat_eq v.ty w.ty) (Decides-eqb v.name w.name) (Decides-eqb v.ty w.ty))

-- a test of the elements of a list against an item
any-turned : {X : Type 0} (same : X → X → Bool) (is : (x y : X) → Decides (same x y) (x ≡ y)) (x : X) (xs : List X)
    → Decides (list_any (λ y. same y x) xs) (IsMember x xs)
any-turned same is x xs = any-is (λ a b. same b a) (λ a b. Decides-like (same b a) sym sym (is b a)) x xs

-- what each test of a mark says
abbrev IsAllowed : List VariableNode → Mark → Type 0
IsAllowed vs (mark.Variable v) = IsMember v vs
IsAllowed vs (mark.TypeVar n) = Unit {0}
IsAllowed vs (mark.Operator n) = Unit {0}
IsAllowed vs (mark.Constant n) = Unit {0}

allowed-is : (vs : List VariableNode) (m : Mark) → Decides (is_allowed vs m) (IsAllowed vs m)
allowed-is vs (mark.Variable v) = any-turned same_variable same-variable-is v vs
allowed-is vs (mark.TypeVar n) = (λ h. tt, λ h. refl)
allowed-is vs (mark.Operator n) = (λ h. tt, λ h. refl)
allowed-is vs (mark.Constant n) = (λ h. tt, λ h. refl)

abbrev IsVarOf : (ℕ → Type 0) → Mark → Type 0
IsVarOf P (mark.TypeVar n) = P n
IsVarOf P (mark.Variable v) = Unit {0}
IsVarOf P (mark.Operator n) = Unit {0}
IsVarOf P (mark.Constant n) = Unit {0}

var-is : (ns : List ℕ) (m : Mark) → Decides (is_var_of ns m) (IsVarOf (λ n. IsMember n ns) m)
var-is ns (mark.TypeVar n) = any-turned nat_eq Decides-eqb n ns
var-is ns (mark.Variable v) = (λ h. tt, λ h. refl)
var-is ns (mark.Operator n) = (λ h. tt, λ h. refl)
var-is ns (mark.Constant n) = (λ h. tt, λ h. refl)

kept-is : (own : List Mark) (m : Mark) → Decides (is_kept_var own m) (IsVarOf (λ n. IsMember (mark.TypeVar n) own) m)
kept-is own (mark.TypeVar n) = any-is mark_eq mark-is (mark.TypeVar n) own
kept-is own (mark.Variable v) = (λ h. tt, λ h. refl)
kept-is own (mark.Operator n) = (λ h. tt, λ h. refl)
kept-is own (mark.Constant n) = (λ h. tt, λ h. refl)

module _ (ts : List Item) (one : IsInjective ts) where
  -- the mark of something that occurs
  marked-var : (n : Name) (ms : List Mark) → IsMember (TypeVar n) (map (mark_at ts) ms)
      → (k : ℕ) × IsMember (mark.TypeVar k) ms × (name_at ts k ≡ n)
  marked-var n ms m = let r = IsMember-map_back (mark_at ts) (TypeVar n) ms m in by r.0 r.1 r.2
    where
      by : (x : Mark) → IsMember x ms → mark_at ts x ≡ TypeVar n → (k : ℕ) × IsMember (mark.TypeVar k) ms
          × (name_at ts k ≡ n)
      by (mark.TypeVar k) i e = let q : name_at ts k ≡ n = cc in (k, i, q)
      by (mark.Operator k) i e = cc
      by (mark.Constant k) i e = cc
      by (mark.Variable k) i e = cc

  marked-free : (v : Variable Name) (ms : List Mark) → IsMember (FreeVar v) (map (mark_at ts) ms)
      → (w : VariableNode) × IsMember (mark.Variable w) ms × (variable_at ts w ≡ v)
  marked-free v ms m = let r = IsMember-map_back (mark_at ts) (FreeVar v) ms m in by r.0 r.1 r.2
    where
      by : (x : Mark) → IsMember x ms → mark_at ts x ≡ FreeVar v → (w : VariableNode) × IsMember (mark.Variable w) ms
          × (variable_at ts w ≡ v)
      by (mark.TypeVar k) i e = cc
      by (mark.Operator k) i e = cc
      by (mark.Constant k) i e = cc
      by (mark.Variable w) i e = let q : variable_at ts w ≡ v = cc in (w, i, q)

  variable-one : (v w : VariableNode) → HasVariable ts v → HasVariable ts w → variable_at ts v ≡ variable_at ts w
      → v ≡ w
  variable-one v w g h e =
      let name = name-one ts one v.name w.name g.0 h.0 (ap (λ x. x.name) e) in
      let type = type-one ts one v.ty w.ty g.1 h.1 (ap (λ x. x.ty) e) in
      λ i. record { name = name i; ty = type i }

  -- members by number
  member-name : (n : ℕ) (ns : List ℕ) → HasName ts n → All (HasName ts) ns → IsMember (name_at ts n) (names_at ts ns)
      → IsMember n ns
  member-name n ns g h m =
      let r = IsMember-map_back (name_at ts) (name_at ts n) ns m in
      subst (λ k. IsMember k ns) (name-one ts one r.0 n (All-at_member (HasName ts) ns r.0 h r.1) g r.2) r.1

  member-variable : (v : VariableNode) (vs : List VariableNode) → HasVariable ts v → All (HasVariable ts) vs
      → IsMember (variable_at ts v) (map (variable_at ts) vs) → IsMember v vs
  member-variable v vs g h m =
      let r = IsMember-map_back (variable_at ts) (variable_at ts v) vs m in
      subst (λ w. IsMember w vs) (variable-one r.0 v (All-at_member (HasVariable ts) vs r.0 h r.1) g r.2) r.1

  -- no variable is free but these
  pub closed-marks : (vs : List VariableNode) (p : Parts) (t : Tm Name) → All (HasVariable ts) vs
      → IsOf ts (marks_tm t) p → list_all (is_allowed vs) p.marks.keys ≡ is_closed_but names (map (variable_at ts) vs)
      t
  closed-marks vs p t has of =
      same_from_decides (list_all (is_allowed vs) p.marks.keys) (is_closed_but names (map (variable_at ts) vs) t)
      (Decides-like (list_all (is_allowed vs) p.marks.keys) to back
      (all-decides (is_allowed vs) (IsAllowed vs) (allowed-is vs) p.marks.keys))
      (is_closed_but-is names tells_names (map (variable_at ts) vs) t)
    where
      to : ((m : Mark) → IsMember m p.marks.keys → IsAllowed vs m) → (v : Variable Name) → IsFree names v t
          → IsMember v (map (variable_at ts) vs)
      to h v f =
          let r = marked-free v p.marks.keys (of.all.to (FreeVar v) (mark-from_free v t f)) in
          subst (λ x. IsMember x (map (variable_at ts) vs)) r.2
          (IsMember-map (variable_at ts) r.0 vs (h (mark.Variable r.0) r.1))

      back : ((v : Variable Name) → IsFree names v t → IsMember v (map (variable_at ts) vs)) → (m : Mark)
          → IsMember m p.marks.keys → IsAllowed vs m
      back h (mark.Variable w) i =
          member-variable w vs (All-at_member (HasMark ts) p.marks.keys (mark.Variable w) of.has i) has
          (h (variable_at ts w)
          (free-from_mark (variable_at ts w) t
          (of.all.back (FreeVar (variable_at ts w)) (IsMember-map (mark_at ts) (mark.Variable w) p.marks.keys i))))
      back h (mark.TypeVar n) i = tt
      back h (mark.Operator n) i = tt
      back h (mark.Constant n) i = tt

  -- each type variable is one of these
  pub listed-marks : (ns : List ℕ) (p : Parts) (t : Tm Name) → All (HasName ts) ns → IsOf ts (marks_tm t) p
      → list_all (is_var_of ns) p.marks.keys ≡ are_names_of names (vars_tm names t) (names_at ts ns)
  listed-marks ns p t has of =
      same_from_decides (list_all (is_var_of ns) p.marks.keys) (are_names_of names (vars_tm names t) (names_at ts ns))
      (Decides-like (list_all (is_var_of ns) p.marks.keys) to back
      (all-decides (is_var_of ns) (IsVarOf (λ n. IsMember n ns)) (var-is ns) p.marks.keys))
      (are_names_of-is names tells_names (vars_tm names t) (names_at ts ns))
    where
      to : ((m : Mark) → IsMember m p.marks.keys → IsVarOf (λ n. IsMember n ns) m)
          → IsPart (vars_tm names t) (names_at ts ns)
      to h n i =
          let r = marked-var n p.marks.keys (of.all.to (TypeVar n) (term-from_var n t i)) in
          subst (λ x. IsMember x (names_at ts ns)) r.2 (IsMember-map (name_at ts) r.0 ns (h (mark.TypeVar r.0) r.1))

      back : IsPart (vars_tm names t) (names_at ts ns) → (m : Mark) → IsMember m p.marks.keys
          → IsVarOf (λ n. IsMember n ns) m
      back h (mark.TypeVar n) i = member-name n ns (All-at_member (HasMark ts) p.marks.keys (mark.TypeVar n) of.has i)
          has (h (name_at ts n)
          (var-from_term (name_at ts n) t
          (of.all.back (TypeVar (name_at ts n)) (IsMember-map (mark_at ts) (mark.TypeVar n) p.marks.keys i))))
      back h (mark.Variable v) i = tt
      back h (mark.Operator n) i = tt
      back h (mark.Constant n) i = tt

  -- each type variable of a term is one of its type
  pub kept-marks : (own p : Parts) (t : Tm Name) (ty : Ty Name) → IsOf ts (marks_ty ty) own → IsOf ts (marks_tm t) p
      → type_of names t ≡ ty → list_all (is_kept_var own.marks.keys) p.marks.keys ≡ keeps_type_vars names t
  kept-marks own p t ty mine of is =
      same_from_decides (list_all (is_kept_var own.marks.keys) p.marks.keys) (keeps_type_vars names t)
      (Decides-like (list_all (is_kept_var own.marks.keys) p.marks.keys) to back
      (all-decides (is_kept_var own.marks.keys) (IsVarOf (λ n. IsMember (mark.TypeVar n) own.marks.keys))
      (kept-is own.marks.keys) p.marks.keys))
      (subst (λ u. Decides (keeps_type_vars names t) (IsPart (vars_tm names t) (vars_ty names u))) is
      (are_names_of-is names tells_names (vars_tm names t) (vars_ty names (type_of names t))))
    where
      to : ((m : Mark) → IsMember m p.marks.keys → IsVarOf (λ n. IsMember (mark.TypeVar n) own.marks.keys) m)
          → IsPart (vars_tm names t) (vars_ty names ty)
      to h n i =
          let r = marked-var n p.marks.keys (of.all.to (TypeVar n) (term-from_var n t i)) in
          let there =
          of_own (name_at ts r.0)
          (IsMember-map (mark_at ts) (mark.TypeVar r.0) own.marks.keys (h (mark.TypeVar r.0) r.1)) in
          subst (λ x. IsMember x (vars_ty names ty)) r.2 there
        where
          of_own : (k : Name) → IsMember (TypeVar k) (marks_at ts own) → IsMember k (vars_ty names ty)
          of_own k j = var-from_mark k ty (mine.all.back (TypeVar k) j)

      back : IsPart (vars_tm names t) (vars_ty names ty) → (m : Mark) → IsMember m p.marks.keys
          → IsVarOf (λ n. IsMember (mark.TypeVar n) own.marks.keys) m
      back h (mark.TypeVar n) i =
          let here = var-from_term (name_at ts n) t
          (of.all.back (TypeVar (name_at ts n)) (IsMember-map (mark_at ts) (mark.TypeVar n) p.marks.keys i)) in
          let r = marked-var (name_at ts n) own.marks.keys
          (mine.all.to (TypeVar (name_at ts n)) (mark-from_var (name_at ts n) ty (h (name_at ts n) here))) in
          let same = name-one ts one r.0 n (All-at_member (HasMark ts) own.marks.keys (mark.TypeVar r.0) mine.has r.1)
          (All-at_member (HasMark ts) p.marks.keys (mark.TypeVar n) of.has i) r.2 in
          subst (λ k. IsMember (mark.TypeVar k) own.marks.keys) same r.1
      back h (mark.Variable v) i = tt
      back h (mark.Operator n) i = tt
      back h (mark.Constant n) i = tt

  -- ---- lists in which nothing stands twice
  pub distinct-names : (ns : List ℕ) → All (HasName ts) ns
      → are_distinct nat_eq ns ≡ are_distinct names.same (names_at ts ns)
  distinct-names ns has =
      same_from_decides (are_distinct nat_eq ns) (are_distinct names.same (names_at ts ns))
      (Decides-like (are_distinct nat_eq ns) (to ns has) (back ns) (are_distinct-is nat_eq Decides-eqb names ns))
      (are_distinct-is names.same tells_names names (names_at ts ns))
    where
      to : (ns : List ℕ) → All (HasName ts) ns → AreDistinct ns → AreDistinct (names_at ts ns)
      to [] h d = tt
      to (n ∷ ns) h d =
          let rest = All-tail (HasName ts) n ns h in
          (λ m. d.0 (member-name n ns (All-head (HasName ts) n ns h) rest m), to ns rest d.1)

      back : (ns : List ℕ) → AreDistinct (names_at ts ns) → AreDistinct ns
      back [] d = tt
      back (n ∷ ns) d = (λ m. d.0 (IsMember-map (name_at ts) n ns m), back ns d.1)

  pub distinct-variables : (vs : List VariableNode) → All (HasVariable ts) vs → are_distinct same_variable vs
      ≡ are_distinct (same_var names) (map (variable_at ts) vs)
  distinct-variables vs has =
      same_from_decides (are_distinct same_variable vs) (are_distinct (same_var names) (map (variable_at ts) vs))
      (Decides-like (are_distinct same_variable vs) (to vs has) (back vs)
      (are_distinct-is same_variable same-variable-is names vs))
      (are_distinct-is (same_var names) (same_var-is names tells_names) names (map (variable_at ts) vs))
    where
      to : (vs : List VariableNode) → All (HasVariable ts) vs → AreDistinct vs → AreDistinct (map (variable_at ts) vs)
      to [] h d = tt
      to (v ∷ vs) h d =
          let rest = All-tail (HasVariable ts) v vs h in
          (λ m. d.0 (member-variable v vs (All-head (HasVariable ts) v vs h) rest m), to vs rest d.1)

      back : (vs : List VariableNode) → AreDistinct (map (variable_at ts) vs) → AreDistinct vs
      back [] d = tt
      back (v ∷ vs) d = (λ m. d.0 (IsMember-map (variable_at ts) v vs m), back vs d.1)
