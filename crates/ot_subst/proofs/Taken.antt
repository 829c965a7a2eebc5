-- What a node that was taken up tells of its parts, and what the memory tells of a term.
use Rattle.std.specs.Prelude.{IfOk, OnErr, nat_eq}
use Rattle.std.proofs.Common.{◌≡◌, ℕ, ◌<◌, ◌≤◌, Bool, true, false, cond, List, [], ◌∷◌, length, slice_get, Some}
use Rattle.std.proofs.Common.{None, Result, Ok, Err, refl, sym, ap, ◌∙◌, inl, inr, eqb-true, eq-eqb, arith}
use Rattle.std.specs.Map.{lookup}
use Rattle.std.proofs.lemmas.Option.{get_or_from_slice_get, none-some, same_Some}
use Rattle.ot_logic.specs.Lists.{IsMember}
use Rattle.ot_logic.specs.Trees.{Ty, TyVar, Named, NApp, NConst}
use Rattle.ot_logic.specs.Hol.{inst, fun_ty}
use Rattle.ot_logic.specs.NamedTerms.{named_type, nameless}
use Rattle.ot_logic.specs.Naming.{numbers}
use Rattle.ot_logic.specs.Bounds.{bound_named}
use Rattle.ot_laws.proofs.Tests.{tells_numbers}
use Rattle.ot_laws.proofs.Typing.{applied-some}
use Rattle.ot_term.specs.Term.{TermTable}
use Rattle.ot_term.specs.TermTable.{term_at, term_of, AreBelow}
use Rattle.ot_term.specs.declared.term.VarKey.{VarKey}
use Rattle.ot_term.specs.declared.term.TermNode.{TermNode}
use Rattle.ot_term.specs.declared.term.TermNode.TheVariants.{Var, Const, App, Abs}
use Rattle.ot_term.proofs.NamesIn.{bound_named-term_at}
use Rattle.ot_subst.specs.Substitution.{Substitution, type_part, named_part}
use Rattle.ot_subst.specs.Renamed.{renaming_of}
use Rattle.ot_subst.specs.Walk.{becomes, AreReady, NamesBelow}
use Rattle.ot_subst.specs.Memory.{above, keys}
use Rattle.ot_subst.proofs.Becoming.{result-typed}
use Rattle.ot_subst.proofs.Abstraction.{typed-renaming}

pub if_ok : {X E : Type 0} (res : Result X E) (P Q : X → Type 0) → ((x : X) → P x → Q x) → IfOk res P → IfOk res Q
if_ok (Ok x) P Q f h = f x h
if_ok (Err e) P Q f h = tt

-- ---- nodes
pub above-below : (types id : ℕ) (n : TermNode) → AreBelow types id n → above n ≤ id
above-below types id (Var v) h = omega arith
above-below types id (Const n t) h = omega arith
above-below types id (App f x) h = omega (arith, h.0, h.1)
above-below types id (Abs v b) h = omega (arith, h.1)

pub more-below : (types j k : ℕ) → j ≤ k → (n : TermNode) → AreBelow types j n → AreBelow types k n
more-below types j k le (Var v) h = h
more-below types j k le (Const n t) h = h
more-below types j k le (App f x) h = (omega (arith, h.0, le), omega (arith, h.1, le))
more-below types j k le (Abs v b) h = (h.0, omega (arith, h.1, le))

module _ (t : TermTable) (id : ℕ) (n : TermNode)
    (tree : slice_get t.terms id ≡ Some (term_of t.types t.terms n)) where
  pub node-tree : term_at t.terms id ≡ term_of t.types t.terms n
  node-tree = get_or_from_slice_get t.terms id (term_of t.types t.terms n) (NConst 0 (TyVar 0)) tree

  pub node-bound : (k : ℕ) → id < length t.terms → NamesBelow k t → bound_named (term_of t.types t.terms n) ≤ k
  node-bound k within low =
      let size = ap bound_named node-tree in
      omega (arith, bound_named-term_at t.terms id within, low.terms, size)

-- ---- an application
module _ (t w : TermTable) (s : Substitution) (r : List (VarKey × VarKey)) (ready : AreReady t s r) (f x : Named ℕ)
    (b : Ty ℕ) (typed : named_type numbers (NApp f x) ≡ Some b) (g y : ℕ)
    (left : nameless numbers (term_at w.terms g) ≡ becomes t s r (nameless numbers f))
    (right : nameless numbers (term_at w.terms y) ≡ becomes t s r (nameless numbers x)) where
  pub parts-typed : (p q : Ty ℕ) × (named_type numbers (term_at w.terms g) ≡ Some (fun_ty numbers p q))
      × (named_type numbers (term_at w.terms y) ≡ Some p)
  parts-typed =
      let (a, c, d) = applied-some numbers tells_numbers (named_type numbers f) (named_type numbers x) b typed in
      let s' = type_part t s in
      let new = typed-renaming t s r ready.binders in (
        inst numbers s' a,
        inst numbers s' b,
        result-typed s' (named_part t s) ready.subst.typed (renaming_of t.types r) new f (term_at w.terms g)
            (fun_ty numbers a b) c left,
        result-typed s' (named_part t s) ready.subst.typed (renaming_of t.types r) new x (term_at w.terms y) a d
            right,
      )

-- ---- the memory
pub recalled : (es : List (ℕ × ℕ)) (id q : ℕ) → lookup (nat_eq id) es ≡ Some q → IsMember (id, q) es
recalled [] id q h = absurd (none-some q h)
recalled (e ∷ es) id q h = go (nat_eq id e.0) refl h (recalled es id q)
  where
    go : (b : Bool) → nat_eq id e.0 ≡ b → cond b (Some e.1) (lookup (nat_eq id) es) ≡ Some q
        → (lookup (nat_eq id) es ≡ Some q → IsMember (id, q) es) → IsMember (id, q) (e ∷ es)
    go true p h f = let key : id ≡ e.0 = eqb-true id e.0 p in let value : e.1 ≡ q = same_Some e.1 q h in
        inl (λ i. (sym key i, value i))
    go false p h f = inr (f h)

pub absent-member : (es : List (ℕ × ℕ)) (id : ℕ) → lookup (nat_eq id) es ≡ None → ¬ (IsMember id (keys es))
absent-member [] id h m = m
absent-member (e ∷ es) id h (inl p) =
    none-some e.1 (sym h ∙ ap (λ b. cond b (Some e.1) (lookup (nat_eq id) es)) (eq-eqb id e.0 (sym p)))
absent-member (e ∷ es) id h (inr m) = go (nat_eq id e.0) h (absent-member es id)
  where
    go : (b : Bool) → cond b (Some e.1) (lookup (nat_eq id) es) ≡ None
        → (lookup (nat_eq id) es ≡ None → ¬ (IsMember id (keys es))) → ⊥
    go true h f = none-some e.1 (sym h)
    go false h f = f h m

pub absent-lookup : (es : List (ℕ × ℕ)) (id : ℕ) → ¬ (IsMember id (keys es)) → lookup (nat_eq id) es ≡ None
absent-lookup [] id n = refl
absent-lookup (e ∷ es) id n = go (nat_eq id e.0) refl (absent-lookup es id (λ m. n (inr m)))
  where
    go : (b : Bool) → nat_eq id e.0 ≡ b → lookup (nat_eq id) es ≡ None → cond b (Some e.1) (lookup (nat_eq id) es)
        ≡ None
    go true p f = absurd (n (inl (sym (eqb-true id e.0 p))))
    go false p f = f

-- ---- a refusal
pub on_err : {X E : Type 0} (res : Result X E) (P : Type 0) → P → OnErr res P
on_err (Ok x) P p = tt
on_err (Err e) P p = p
