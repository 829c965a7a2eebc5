-- What the code makes of values that fit.
use Rattle.std.specs.Prelude.{◌≡◌, ℕ, Bool, true, false}
use Rattle.std.specs.Prelude.{List, Option, Some, None, Result, Ok}
use Rattle.std.proofs.Common.{sym, ◌∙◌, ap, subst}
use Rattle.ot_logic.specs.Answers.{◌>>=◌, some_or}
use Rattle.ot_logic.specs.Names.{Name}
use Rattle.ot_logic.specs.Naming.{names}
use Rattle.ot_logic.specs.Trees.{Ty, Tm, Con, App, Symbol}
use Rattle.ot_logic.specs.Hol.{bool_ty, fun_ty, result_ty, type_in}
use Rattle.ot_logic.specs.declared.memory.Memory.{Memory}
use Rattle.ot_laws.proofs.Tests.{tells_names}
use Rattle.ot_laws.proofs.Typing.{result_ty-fun}
use Rattle.ot_forms.specs.declared.fault.TextFault.TheVariants.{BadTypes, UnknownOperator}
use Rattle.ot_forms.specs.Meaning.{Around, types_around, constant_of, is_typed}
use Rattle.ot_forms.specs.Meaning.{relation_ty, equated, are_alike}
use Rattle.ot_parse.specs.declared.values.Value.{Value}
use Rattle.ot_parse.specs.declared.values.Meant.{Meant as Part}
use Rattle.ot_parse.specs.declared.values.Meant.TheVariants as parts
use Rattle.ot_logic.specs.PlainTrees.{type_of_tree, term_of_tree}
use Rattle.ot_parse.specs.Meant.{equal_of, infix_of, relation_of, related_at}
use Rattle.ot_parse.specs.Values.{IsValue, Means, IsMade, IsRelated, IsAppliedAs}
use Rattle.ot_parse.proofs.ValueLaws.{alike-typed, equated-is, equal-right, equal-wrong}

-- ---- relations
-- a relation between propositions takes a first proposition, and what it makes of it a second
module _ (l : Around) (n : Name) (c x : Value) (hc : IsValue l c) (hx : type_of_tree x.ty ≡ bool_ty names)
    (ec : term_of_tree c.term ≡ Con n (relation_of (bool_ty names))) where
  relation-type : relation_of (bool_ty names) ≡ type_of_tree c.ty
  relation-type =
      let s : ◌≡◌ {A = Option (Ty Name)} (Some (relation_of (bool_ty names))) (Some (type_of_tree c.ty)) =
      sym (ap (type_in names (types_around l)) ec) ∙ hc.typed in cc

  pub takes-first : (p : Ty Name) → p ≡ fun_ty names (bool_ty names) (bool_ty names)
      → result_ty names (type_of_tree c.ty) (type_of_tree x.ty) ≡ Some p
  takes-first p e =
      (λ i. result_ty names (sym relation-type i) (hx i))
      ∙ result_ty-fun names tells_names (bool_ty names) (fun_ty names (bool_ty names) (bool_ty names))
      ∙ ap Some (sym e)

pub takes-second : (f t u p : Ty Name) → f ≡ p → p ≡ fun_ty names (bool_ty names) (bool_ty names)
    → t ≡ bool_ty names → u ≡ bool_ty names → result_ty names f t ≡ Some u
takes-second f t u p e d h k =
    (λ i. result_ty names ((e ∙ d) i) (h i)) ∙ result_ty-fun names tells_names (bool_ty names) (bool_ty names)
    ∙ ap Some (sym k)

pub relation-made : (l : Around) (n : Name) (c f a b : Tm Name) (t u : Ty Name) (v w : Value)
    → c ≡ Con n (relation_of (bool_ty names)) → IsAppliedAs l c a t v → f ≡ term_of_tree v.term
    → IsAppliedAs l f b u w → Means l (Ok (related_at n (bool_ty names) a b)) (parts.Value w)
relation-made l n c f a b t u v w ec h e k =
    record {
      means = ap Ok (k.term ∙ ap (λ g. App g b) (e ∙ h.term ∙ ap (λ g. App g a) ec));
      kept = k.kept;
    }

-- ---- equations
module _ (l : Around) (k : ℕ) (n : Name) (t : Ty Name) (x y : Value) (hx : IsValue l x) (hy : IsValue l y)
    (en : n ≡ names.equals) (et : t ≡ type_of_tree x.ty) where
  alike : is_typed l (related_at n t (term_of_tree x.term) (term_of_tree y.term)) ≡ are_alike l (term_of_tree x.term)
      (term_of_tree y.term)
  alike = ap (λ u. is_typed l (related_at n u (term_of_tree x.term) (term_of_tree y.term))) et ∙ alike-typed l n
      (term_of_tree x.term) (term_of_tree y.term) (type_of_tree x.ty) (type_of_tree y.ty) hx.typed hy.typed

  same : related_at n t (term_of_tree x.term) (term_of_tree y.term) ≡ equated l (term_of_tree x.term)
      (term_of_tree y.term)
  same = (λ i. related_at (en i) (et i) (term_of_tree x.term) (term_of_tree y.term))
      ∙ equated-is l (term_of_tree x.term) (term_of_tree y.term) (type_of_tree x.ty) hx.typed

  some-typed : (u : Tm Name) (ty : Ty Name) → type_in names (types_around l) u ≡ Some ty → is_typed l u ≡ true
  some-typed u ty e = ap (λ o. elim o as (λ _. Bool) [ None ↦ false | Some v ↦ true ]) e

  pub equal-made : (v : Value) → IsRelated l (related_at n t (term_of_tree x.term) (term_of_tree y.term))
      (Ok (Some v)) → Means l (equal_of l k (Ok (term_of_tree x.term)) (Ok (term_of_tree y.term))) (parts.Value v)
  equal-made v h = record {
    means = ap Ok (h.0 ∙ same) ∙ sym (equal-right l k (term_of_tree x.term) (term_of_tree y.term)
        (sym alike ∙ ap (is_typed l) (sym h.0) ∙ some-typed (term_of_tree v.term) (type_of_tree v.ty) h.1.typed));
    kept = h.1;
  }

  pub equal-none : is_typed l (related_at n t (term_of_tree x.term) (term_of_tree y.term)) ≡ false
      → Means l (equal_of l k (Ok (term_of_tree x.term)) (Ok (term_of_tree y.term))) (parts.Wrong k BadTypes)
  equal-none e =
      record { means = sym (equal-wrong l k (term_of_tree x.term) (term_of_tree y.term) (sym alike ∙ e)); kept = tt }

-- ---- operators
module _ (hidden : List (Symbol Name)) (l : Around) (k : ℕ) (o : List ℕ) (a b : Tm Name) where
  pub operator-made : (n : Name) (r : Result Part Memory) → constant_of hidden o ≡ Some n
      → IsMade l (Ok (related_at n (bool_ty names) a b)) r
      → IsMade l (infix_of hidden l k o (Ok a) (Ok b)) r
  operator-made n r e h =
      let same : infix_of hidden l k o (Ok a) (Ok b) ≡ Ok (related_at n (bool_ty names) a b) =
      ap (λ c. some_or (k, UnknownOperator) c >>= (λ n. Ok (App (App (Con n relation_ty) a) b))) e in
      subst (λ m. IsMade l m r) (sym same) h

  pub no-operator : constant_of hidden o ≡ None
      → Means l (infix_of hidden l k o (Ok a) (Ok b)) (parts.Wrong k UnknownOperator)
  no-operator e =
      record {
        means = sym
            (ap (λ c. some_or (k, UnknownOperator) c >>= (λ n. Ok (App (App (Con n relation_ty) a) b))) e);
        kept = tt;
      }
