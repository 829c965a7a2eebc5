-- What `defineTypeOp` pushes in version 5, by its plain sequents and by its plain limit.
use Rattle.std.specs.Prelude.{◌≡◌, ◌&&◌, true, false, List, [], ◌∷◌, Some, Result, Ok, Err}
use Rattle.std.specs.List.{list_all}
use Rattle.std.proofs.Common.{refl, sym, ap, ◌∙◌, inl, inr}
use Rattle.std.proofs.lemmas.Bool.{and_parts}
use Rattle.ot_logic.specs.Names.{Name}
use Rattle.ot_logic.specs.Naming.{names}
use Rattle.ot_logic.specs.Trees.{Ty, TyOp, Tm, Free, Con, Bound, App, Abs}
use Rattle.ot_logic.specs.Trees.{Sequent, Definition, TyDef, ConSymbol, OpSymbol}
use Rattle.ot_logic.specs.Hol.{fun_ty, bool_ty, type_in, type_of, HasType, IsClosed, is_shallow, is_shallow_sequent}
use Rattle.ot_logic.specs.Hol.{equation, sequent_of, tys_of_vars, theorems, vars_tm, symbols_of}
use Rattle.ot_logic.specs.Faults.{Fault, Nesting, HypothesesPresent, BadTypeVars, NotClosed}
use Rattle.ot_logic.specs.Answers.{◌>>=◌, unless}
use Rattle.ot_laws.specs.Conditions.{is_empty, is_closed, are_distinct, are_names_of, checked_symbols, checked_type}
use Rattle.ot_laws.proofs.Tests.{tells_names}
use Rattle.ot_laws.proofs.Typing.{applied-some, type_of-is}
use Rattle.ot_kernel.specs.Defining.{all_defined, all_used, type_definition, limited_definition}
use Rattle.ot_trace.specs.Origins.{Origin, Outcome}
use Rattle.ot_machine.specs.Objects.{theorem}
use Rattle.ot_machine.specs.Makers.{Read}
use Rattle.ot_machine.specs.States.{Entry}
use Rattle.ot_machine.specs.Values.{theorem_of}
use Rattle.ot_machine.specs.Rows.{theorem_entries}
use Rattle.ot_kernel.specs.Opening.{var_a, var_r, beta_over}
use Rattle.ot_kernel.specs.Opening as plain
use Rattle.ot_machine.specs.Version5.{abs_origin, abs_value, rep_origin, open_theorems}
use Rattle.ot_machine.proofs.OpenValue.{IsOpening, IsReturn, rep-value, rep-refused, abs-value}
use Rattle.ot_logic.proofs.Results.{bind-ok, unless-ok}

pub closed-of : (t : Tm Name) → is_closed names t ≡ true → IsClosed names t
closed-of (Free v) h = absurd (cc)
closed-of (Con n t) h = λ v e. e
closed-of (Bound k) h = λ v e. e
closed-of (App f x) h = λ v e. let (p, q) = and_parts (is_closed names f) (is_closed names x) h in
    elim e [ inl i ↦ closed-of f p v i | inr i ↦ closed-of x q v i ]
closed-of (Abs t b) h = closed-of b h

-- with the origins that they have
abbrev pub entries : Origin Name → Origin Name → List (Sequent Name) → List Entry
entries o p (q ∷ r ∷ []) = record { object = theorem q; origin = o } ∷ record { object = theorem r; origin = p } ∷ []
entries o p _ = []

module _ (dl : List (Definition Name)) (n abs rep : Name) (vars : List Name) (hyps : List (Tm Name)) (p t : Tm Name)
    (d : Origin Name) where
  abbrev premise : Sequent Name
  premise = record { hyps = hyps; concl = App p t }

  abbrev definition : Definition Name
  definition = TyDef n abs rep vars premise

  abbrev new : Ty Name
  new = TyOp n (tys_of_vars names vars)

  abbrev old : Ty Name
  old = type_of names t

  module _ (typed : HasType names (App p t) (bool_ty names))
      (accepted : type_definition names dl n abs rep vars premise ≡ Ok definition) where
    predicate-typed : HasType names p (fun_ty names old (bool_ty names))
    predicate-typed =
        let (a, f, x) = applied-some names tells_names (type_in names [] p) (type_in names [] t) (bool_ty names)
        typed in
        f ∙ ap (λ u. Some (fun_ty names u (bool_ty names))) (sym (type_of-is names t a x))

    abbrev checked : (u : Unit {0})
        × (checked_type names (all_defined names dl) (all_used names dl) n abs rep vars premise ≡ Ok u)
        × (limited_definition names definition ≡ Ok definition)
    checked = bind-ok (checked_type names (all_defined names dl) (all_used names dl) n abs rep vars premise) _ _
        accepted

    predicate-closed : IsClosed names p
    predicate-closed =
        let a = bind-ok (unless HypothesesPresent (is_empty hyps)) _ _ (checked).1 in
        let c = bind-ok
        (unless BadTypeVars (are_distinct names.same vars && are_names_of names (vars_tm names p) vars)) _ _
        a.2 in
        let e = bind-ok (checked_symbols names (all_defined names dl) (all_used names dl) (symbols_of names premise)
        (OpSymbol n ∷ ConSymbol abs ∷ ConSymbol rep ∷ [])) _ _ c.2 in
        closed-of p (unless-ok NotClosed (is_closed names p) _ e.2)

    limits : (list_all (is_shallow_sequent names) (theorems names definition)) ≡ true
    limits =
        let a = bind-ok (unless Nesting (list_all (is_shallow_sequent names) (theorems names definition))) _ _
        (checked).2 in
        unless-ok Nesting (list_all (is_shallow_sequent names) (theorems names definition)) _ a.1

    abbrev o1 : Origin Name
    o1 = abs_origin abs rep new old p (Outcome 1 d)

    abbrev o2 : Origin Name
    o2 = rep_origin abs rep new old p (Outcome 2 d)

    returns : IsReturn abs rep new old p (theorem_of 1 definition)
    returns = record {
      first = refl;
      return_limit = (and_parts _ _ limits).0;
    }

    opens : IsOpening abs rep new old p (theorem_of 2 definition)
    opens = record {
      typed = predicate-typed;
      closed = predicate-closed;
      second = refl;
      limit = (and_parts _ true (and_parts _ _ limits).1).0;
    }

    abbrev returned : Sequent Name
    returned =
        sequent_of names
        (equation names new
        (App (Con abs (fun_ty names old new))
        (App (Con rep (fun_ty names new old)) (Free (record { name = var_a; ty = new }))))
        (Free (record { name = var_a; ty = new })))

    first-value : abs_value abs rep new old p (theorem_of 1 definition) ≡ Ok (theorem returned)
    first-value = abs-value abs rep new old p (theorem_of 1 definition) returns

    abbrev pushed : Read → Read → Result (List Entry) (Fault Name)
    pushed a b = a >>= λ first. b
        >>= λ second. Ok (record { object = first; origin = o1 } ∷ record { object = second; origin = o2 } ∷ [])

    -- within the limit: the plain sequents, with the two origins
    pub open-pushed : is_shallow names (beta_over names (record { name = var_r; ty = old }) p) ≡ true
        → open_theorems abs rep new (App p t) (theorem_entries d 0 (theorems names definition))
        ≡ Ok (entries o1 o2 (plain.opened_by definition))
    open-pushed k =
        let second = rep-value abs rep new old p (theorem_of 2 definition) opens k in
        λ i. pushed (first-value i) (second i)

    -- past it: refused
    pub open-refused : is_shallow names (beta_over names (record { name = var_r; ty = old }) p) ≡ false
        → open_theorems abs rep new (App p t) (theorem_entries d 0 (theorems names definition)) ≡ Err Nesting
    open-refused k =
        let second = rep-refused abs rep new old p (theorem_of 2 definition) opens k in
        λ i. pushed (first-value i) (second i)
