-- A definition that passes its conditions may be next, and its theorems are theorems.
use Rattle.std.proofs.Common.{◌≡◌, List, map, Result, Ok, Err, ap, subst}
use Rattle.ot_logic.specs.Trees.{Alphabet, Variable, Tm, Sequent, Definition, ConDef, ListDef, TyDef}
use Rattle.ot_logic.specs.Hol.{IsNext, defined, used}
use Rattle.ot_logic.specs.Answers.{unless}
use Rattle.ot_laws.specs.Theorem.{IsTheorem}
use Rattle.ot_laws.proofs.Tests.{Tells}
use Rattle.ot_laws.proofs.Definitions.{HasPremise}
use Rattle.ot_log_format.specs.Tokens.{LogFault, BadStep}
use Rattle.ot_laws.specs.Conditions.{checked_const, checked_list, checked_type}
use Rattle.ot_laws.specs.Next.{AreSymbolsOf}
use Rattle.ot_log_format.specs.Steps.{or_bad, is_well_typed, all_defined, all_used}
use Rattle.ot_log_format.specs.Steps.{constant_step, constants_step, type_operator_step}
use Rattle.ot_laws.proofs.Next.{constants_are_next, lists_are_next, types_are_next}
use Rattle.ot_log_format.proofs.StepSound.{well_typed-is}
use Rattle.ot_logic.proofs.Members.{IsMember-flat_map, IsMember-flat_map_back}
use Rattle.ot_logic.proofs.Results.{bind-ok, same_Ok, unless-ok}

or_bad-ok : {A E : Type 0} (r : Result A E) (x : A) → or_bad r ≡ Ok x → r ≡ Ok x
or_bad-ok (Ok y) x h = ap Ok (same_Ok y x h)
or_bad-ok (Err e) x h = cc

module _ {N : Type 0} (alphabet : Alphabet N) where
  all_symbols : (dl : List (Definition N)) → AreSymbolsOf alphabet dl (all_defined alphabet dl) (all_used alphabet dl)
  all_symbols dl = record {
    defined =
        λ s. (
          λ m. IsMember-flat_map_back (defined alphabet) s dl m,
          λ r. IsMember-flat_map (defined alphabet) s r.0
              dl r.1 r.2,
        );
    used = λ s.
        (λ m. IsMember-flat_map_back (used alphabet) s dl m, λ r. IsMember-flat_map (used alphabet) s r.0 dl r.1 r.2);
  }

-- a definition that may be next, of a premise that is a sequent
pub record IsAcceptable {N : Type 0} (alphabet : Alphabet N) (al : List (Sequent N)) (dl : List (Definition N))
    (d : Definition N) : Type 0 where
  pub next : IsNext alphabet al dl d
  pub premise : HasPremise alphabet d

module _ {N : Type 0} (alphabet : Alphabet N) (tells : Tells alphabet) (al : List (Sequent N))
    (dl : List (Definition N)) where
  as-given : (d e : Definition N) → ◌≡◌ {A = Result (Definition N) LogFault} (Ok d) (Ok e)
      → IsAcceptable alphabet al dl d → IsAcceptable alphabet al dl e
  as-given d e h a = subst (IsAcceptable alphabet al dl) (same_Ok d e h) a

  pub constant-acceptable : (n : N) (t : Tm N) (d : Definition N) → constant_step alphabet dl n t ≡ Ok d
      → IsAcceptable alphabet al dl d
  constant-acceptable n t d h =
      let (u, p, k) = bind-ok (unless BadStep (is_well_typed alphabet t)) _ d h in
      let w = well_typed-is alphabet t (unless-ok BadStep (is_well_typed alphabet t) u p) in
      let (v, r, l) = bind-ok (or_bad (checked_const alphabet (all_defined alphabet dl) (all_used alphabet dl) n t)) _
      d k in
      as-given (ConDef n t) d l
      (record {
        next = constants_are_next alphabet tells al dl (all_defined alphabet dl) (all_used alphabet dl) n t
            (all_symbols alphabet dl) w
            (or_bad-ok (checked_const alphabet (all_defined alphabet dl) (all_used alphabet dl) n t) tt r);
        premise =
            tt;
      })

  pub constants-acceptable : (ps : List (N × Variable N)) (q : Sequent N) (d : Definition N)
      → IsTheorem alphabet al dl q → constants_step alphabet dl ps q ≡ Ok d → IsAcceptable alphabet al dl d
  constants-acceptable ps q d t h =
      let check : Result (Unit {0}) _ = checked_list alphabet (all_defined alphabet dl) (all_used alphabet dl)
      (map (λ p. p.0) ps) (map (λ p. p.1) ps) q in
      let (v, r, l) = bind-ok (or_bad check) _ d h in
      as-given (ListDef ps q) d l
      (record {
        next = lists_are_next alphabet tells al dl (all_defined alphabet dl) (all_used alphabet dl) ps q
            (all_symbols alphabet dl) t (or_bad-ok check tt r);
        premise = t.sequent;
      })

  pub type_operator-acceptable : (n abs rep : N) (vars : List N) (q : Sequent N) (d : Definition N)
      → IsTheorem alphabet al dl q → type_operator_step alphabet dl n abs rep vars q ≡ Ok d
      → IsAcceptable alphabet al dl d
  type_operator-acceptable n abs rep vars q d t h =
      let check : Result (Unit {0}) _ = checked_type alphabet (all_defined alphabet dl) (all_used alphabet dl) n abs
      rep vars q in
      let (v, r, l) = bind-ok (or_bad check) _ d h in
      as-given (TyDef n abs rep vars q) d l
      (record {
        next = types_are_next alphabet tells al dl (all_defined alphabet dl) (all_used alphabet dl) n abs rep
            vars q (all_symbols alphabet dl) t (or_bad-ok check tt r);
        premise = t.sequent;
      })
