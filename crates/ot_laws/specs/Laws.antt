-- What the definitions of the logic imply, for an alphabet of names.
use Rattle.std.specs.Prelude.{◌≡◌, ◌↔◌, ◌≤◌, List, [], ◌∷◌, ◌++◌, length, Some, IsTrue, IfOk, ◌≢◌}
use Rattle.ot_logic.specs.Lists.{IsMember, IsPart, IsSameSet, AreDistinct}
use Rattle.ot_logic.specs.Trees.{Alphabet, Ty, Tys, TyOp, Variable, Tm, App, Abs, Named, Sequent, Definition}
use Rattle.ot_logic.specs.Hol.{TypeMap, TermMap, inst, is_shallow_ty, same_ty, same_var, type_in, HasType}
use Rattle.ot_logic.specs.Hol.{IsWellTyped, close, opened, subst_tm, IsFree, is_free, IsFreeInSome}
use Rattle.ot_logic.specs.Hol.{is_free_in_some, is_shallow, same_tm, equation, as_equation, minus, is_in}
use Rattle.ot_logic.specs.Hol.{union, once_each, same_sequent, IsSequent, IsTyped, Derivable, IsNext, Accepted}
use Rattle.ot_logic.specs.NamedTerms.{nameless, nameless_in, IsFreeIn, named_type, same_named, parts, size}
use Rattle.ot_logic.specs.Rules.{has_type, op_rule, app_rule, abs_rule, refl_rule, assume_rule}
use Rattle.ot_logic.specs.Rules.{eq_mp_rule, abs_thm_rule, app_thm_rule, deduct_antisym_rule}
use Rattle.ot_logic.specs.Rules.{beta_conv_rule, subst_rule, sym_rule, trans_rule, prove_hyp_rule}
use Rattle.ot_laws.specs.Limits.{is_shallow_named}
use Rattle.ot_laws.specs.Theorem.{IsTheorem, AreSequents}
use Rattle.ot_laws.specs.Walk.{NamedMap, nameless_map, BinderRule, apply_by, Picks}

module _ {N : Type 0} (alphabet : Alphabet N) where
  -- ---- named terms and their nameless forms

  -- a term has one nameless form, whether its binders are closed one by one or looked up
  abbrev pub NamelessForm : Type 0
  NamelessForm = (t : Named N) → nameless_in alphabet [] t ≡ nameless alphabet t

  -- the same variables are free
  abbrev pub NamelessFree : Type 0
  NamelessFree = (v : Variable N) (t : Named N) → IsFree alphabet v (nameless alphabet t) ↔ IsFreeIn alphabet v t

  -- a named term has the type of its nameless form, or neither has one
  abbrev pub NamelessTyping : Type 0
  NamelessTyping = (t : Named N) → type_in alphabet [] (nameless alphabet t) ≡ named_type alphabet t

  -- a named term is within the nesting limit exactly where its nameless form is
  abbrev pub NamelessLimit : Type 0
  NamelessLimit = (t : Named N) → is_shallow alphabet (nameless alphabet t) ≡ is_shallow_named alphabet t

  -- ---- substitution

  -- on named terms it is the substitution that renames binders, however these are picked, so long as none captures
  abbrev pub NamedSubstitution : Type 0
  NamedSubstitution = (pick : BinderRule alphabet) (s : TypeMap alphabet) (m : NamedMap alphabet)
      → Picks alphabet s (nameless_map alphabet m) pick
      → (t : Named N) → nameless alphabet (apply_by alphabet pick s m [] t)
      ≡ subst_tm alphabet s (nameless_map alphabet m) (nameless alphabet t)

  -- binders can be picked so
  abbrev pub BindersCanBePicked : Type 0
  BindersCanBePicked = (s : TypeMap alphabet) (m : NamedMap alphabet) → (pick : BinderRule alphabet)
      × Picks alphabet s (nameless_map alphabet m) pick

  -- beta is the substitution of the argument for the variable alone
  abbrev pub BetaIsSubstitution : Type 0
  BetaIsSubstitution = (v : Variable N) (b u : Named N)
      → opened alphabet (close alphabet v (nameless alphabet b)) (nameless alphabet u)
      ≡ subst_tm alphabet [] ((v, nameless alphabet u) ∷ []) (nameless alphabet b)

  -- a substitution by terms of their variables' types gives a term of the type's instance
  abbrev pub SubstitutionTyping : Type 0
  SubstitutionTyping = (s : TypeMap alphabet) (m : TermMap alphabet) (t : Tm N) (ty : Ty N)
      → IsTyped alphabet m → HasType alphabet t ty → HasType alphabet (subst_tm alphabet s m t) (inst alphabet s ty)

  -- ---- tests and sets

  -- each test holds exactly where what it asks for does
  pub record TestsDecide : Type 0 where
    pub types : (a b : Ty N) → IsTrue (same_ty alphabet a b) ↔ (a ≡ b)
    pub variables : (v w : Variable N) → IsTrue (same_var alphabet v w) ↔ (v ≡ w)
    pub terms : (a b : Tm N) → IsTrue (same_tm alphabet a b) ↔ (a ≡ b)
    pub named_terms : (a b : Named N) → IsTrue (same_named alphabet a b) ↔ (a ≡ b)
    pub typings : (t : Tm N) (ty : Ty N) → IsTrue (has_type alphabet t ty) ↔ HasType alphabet t ty
    pub frees : (v : Variable N) (t : Tm N) → IsTrue (is_free alphabet v t) ↔ IsFree alphabet v t
    pub frees_in_some : (v : Variable N) (ts : List (Tm N)) → IsTrue (is_free_in_some alphabet v ts)
        ↔ IsFreeInSome alphabet v ts
    pub members : (t : Tm N) (ts : List (Tm N)) → IsTrue (is_in alphabet t ts) ↔ IsMember t ts
    pub sequents : (q r : Sequent N) → IsTrue (same_sequent alphabet q r)
        ↔ (IsSameSet q.hyps r.hyps × (q.concl ≡ r.concl))
    pub equations : (t : Tm N) (ty : Ty N) (a b : Tm N) → (as_equation alphabet t ≡ Some (ty, a, b))
        ↔ (t ≡ equation alphabet ty a b)

  -- the lists of hypotheses that rules make are the sets that they stand for, each member once
  pub record HypothesesAreSets : Type 0 where
    pub union_members : (g h : List (Tm N)) → IsSameSet (g ++ h) (union alphabet g h)
    pub union_once : (g h : List (Tm N)) → AreDistinct g → AreDistinct h → AreDistinct (union alphabet g h)
    pub minus_members : (x y : Tm N) (g : List (Tm N)) → IsMember x (minus alphabet y g) ↔ (IsMember x g × (x ≢ y))
    pub minus_once : (y : Tm N) (g : List (Tm N)) → AreDistinct g → AreDistinct (minus alphabet y g)
    pub each_members : (g : List (Tm N)) → IsSameSet g (once_each alphabet g)
    pub each_once : (g : List (Tm N)) → AreDistinct (once_each alphabet g)

  -- the size of a term is the number of different trees among its parts
  pub record SizeCountsParts : Type 0 where
    pub most : (t : Named N) (us : List (Named N)) → AreDistinct us → IsPart us (parts alphabet t)
        → length us ≤ size alphabet t
    pub reached : (t : Named N) → (us : List (Named N)) × AreDistinct us × IsSameSet (parts alphabet t) us
        × (length us ≡ size alphabet t)

  -- ---- derivable sequents

  -- what is derivable and accepted stays so when assumptions and definitions are added at the ends; a definition is
  -- added by its own conditions
  pub record Growth : Type 0 where
    pub derivable : (al bl : List (Sequent N)) (dl el : List (Definition N)) (g : List (Tm N)) (p : Tm N)
        → Derivable alphabet al dl g p → Derivable alphabet (al ++ bl) (dl ++ el) g p
    pub accepted : (al bl : List (Sequent N)) (dl : List (Definition N)) → Accepted alphabet al dl
        → Accepted alphabet (al ++ bl) dl
    pub none : (al : List (Sequent N)) → Accepted alphabet al []
    pub next : (al : List (Sequent N)) (dl : List (Definition N)) (d : Definition N) → Accepted alphabet al dl
        → IsNext alphabet al dl d → Accepted alphabet al (dl ++ d ∷ [])

  -- under accepted definitions, and assumptions that are sequents, all that is derivable is a sequent
  abbrev pub DerivableAreSequents : Type 0
  DerivableAreSequents = (al : List (Sequent N)) (dl : List (Definition N)) → AreSequents alphabet al
      → Accepted alphabet al dl → (q : Sequent N) → Derivable alphabet al dl q.hyps q.concl → IsSequent alphabet q

  -- the types and terms that rules make are within the nesting limit, and the terms well typed
  pub record TermRulesAreSound : Type 0 where
    pub op : (n : N) (ts : Tys N)
        → IfOk (op_rule alphabet n ts) (λ t. (t ≡ TyOp n ts) × IsTrue (is_shallow_ty alphabet t))
    pub app : (f x : Tm N)
        → IfOk (app_rule alphabet f x) (λ t. (t ≡ App f x) × IsWellTyped alphabet t × IsTrue (is_shallow alphabet t))
    pub abs : (v : Variable N) (b : Tm N) → IsWellTyped alphabet b → IfOk (abs_rule alphabet v b)
        (λ t. (t ≡ Abs v.ty (close alphabet v b)) × IsWellTyped alphabet t × IsTrue (is_shallow alphabet t))

  -- the sequent that a rule gives is a theorem, where those that it is given are
  pub record RulesAreSound (al : List (Sequent N)) (dl : List (Definition N)) : Type 0 where
    pub refl : (t : Tm N) → IsWellTyped alphabet t → IfOk (refl_rule alphabet t) (IsTheorem alphabet al dl)
    pub assume : (p : Tm N) → IfOk (assume_rule alphabet p) (IsTheorem alphabet al dl)
    pub eq_mp : (lower top : Sequent N) → IsTheorem alphabet al dl lower → IsTheorem alphabet al dl top
        → IfOk (eq_mp_rule alphabet lower top) (IsTheorem alphabet al dl)
    pub abs_thm : (v : Variable N) (th : Sequent N) → IsTheorem alphabet al dl th
        → IfOk (abs_thm_rule alphabet v th) (IsTheorem alphabet al dl)
    pub app_thm : (lower top : Sequent N) → IsTheorem alphabet al dl lower → IsTheorem alphabet al dl top
        → IfOk (app_thm_rule alphabet lower top) (IsTheorem alphabet al dl)
    pub deduct_antisym : (lower top : Sequent N) → IsTheorem alphabet al dl lower → IsTheorem alphabet al dl top
        → IfOk (deduct_antisym_rule alphabet lower top) (IsTheorem alphabet al dl)
    pub beta_conv : (t : Tm N) → IsWellTyped alphabet t → IfOk (beta_conv_rule alphabet t) (IsTheorem alphabet al dl)
    pub subst : (s : TypeMap alphabet) (m : TermMap alphabet) (th : Sequent N) → IsTyped alphabet m
        → IsTheorem alphabet al dl th → IfOk (subst_rule alphabet s m th) (IsTheorem alphabet al dl)
    pub sym : (th : Sequent N) → IsTheorem alphabet al dl th → IfOk (sym_rule alphabet th) (IsTheorem alphabet al dl)
    pub trans : (lower top : Sequent N) → IsTheorem alphabet al dl lower → IsTheorem alphabet al dl top
        → IfOk (trans_rule alphabet lower top) (IsTheorem alphabet al dl)
    pub prove_hyp : (lower top : Sequent N) → IsTheorem alphabet al dl lower → IsTheorem alphabet al dl top
        → IfOk (prove_hyp_rule alphabet lower top) (IsTheorem alphabet al dl)
