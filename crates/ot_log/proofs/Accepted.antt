-- No step of a run is refused: terms and theorems of a run are well typed, and words have as many operands as they
-- take.
use Rattle.std.specs.Prelude.{◌⊎◌, ◌==◌}
use Rattle.std.specs.List.{All, AllByRecursion}
use Rattle.std.proofs.Common.{◌≡◌, ◌<◌, inl, inr, ℕ, true, List, [], ◌∷◌}
use Rattle.std.proofs.Common.{length, Ok, refl, sym, subst, ◌∙◌, arith}
use Rattle.std.proofs.lemmas.List.Elements.{All-nil, All-cons}
use Rattle.ot_logic.specs.Names.{Name}
use Rattle.ot_logic.specs.Naming.{names}
use Rattle.ot_logic.specs.Trees.{Tm, Sequent, Definition}
use Rattle.ot_logic.specs.Hol.{HasType, IsWellTyped, bool_ty}
use Rattle.ot_logic.specs.Faults.{StackEmpty}
use Rattle.ot_logic.specs.Answers.{unless}
use Rattle.ot_logic.specs.declared.command.Cmd.{Cmd}
use Rattle.ot_logic.specs.declared.command.Cmd.TheVariants as words
use Rattle.ot_log_rules.specs.Limits.{AreWellTyped}
use Rattle.ot_trace.specs.Origins.{Origin, Make, Define}
use Rattle.ot_machine.specs.Objects.{Object, term, theorem}
use Rattle.ot_machine.specs.Makers.{arity, maker}
use Rattle.ot_machine.specs.Values.{value, values, value_at, defines, defined_by, definition_arity}
use Rattle.ot_machine.specs.declared.session.Session.{Session}
use Rattle.ot_log_law.specs.Derived.{makes_theorem}
use Rattle.ot_log_law.proofs.Kept.{IsKeptTerm, IsKept}
use Rattle.ot_log_law.proofs.KeptObjects.{IsKeptObject}
use Rattle.ot_log_law.proofs.Values.{value-kept}
use Rattle.ot_log_values.specs.Steps.{Makes, origins_of}
use Rattle.ot_log_values.proofs.Taking.{values-long, same-number, made-long}
use Rattle.ot_log_words.specs.Recording.{HasResult}
use Rattle.ot_log.specs.Keeping.{IsDefinable}
use Rattle.ot_logic.proofs.Results.{bind-ok, same_Ok, unless-ok}

-- ---- types

pub typed-term : (o : Origin Name) (t : Tm Name) → HasResult (value o) → Makes o (term t) → IsWellTyped names t
typed-term o t h m = let k : IsKeptTerm t = subst IsKeptObject (m.is h.0 h.1) (value-kept o h.0 h.1) in k.typed

all-typed : (ts : List (Tm Name)) → AllByRecursion (λ t. HasType names t (bool_ty names)) ts
    → All (IsWellTyped names) ts
all-typed [] h = All-nil (IsWellTyped names)
all-typed (t ∷ ts) h = All-cons (IsWellTyped names) t ts (bool_ty names, h.0) (all-typed ts h.1)

pub typed-theorem : (o : Origin Name) (q : Sequent Name) → HasResult (value o) → Makes o (theorem q) → AreWellTyped q
typed-theorem o q h m =
    let k : IsKept q = subst IsKeptObject (m.is h.0 h.1) (value-kept o h.0 h.1) in
    record { hyps = all-typed q.hyps k.sequent.hyps; concl = (bool_ty names, k.sequent.concl) }

-- ---- how many operands

one-or-two : (w : Cmd) → makes_theorem w ≡ true → (arity (maker w) ≡ 1) ⊎ (arity (maker w) ≡ 2)
one-or-two words.Refl h = inl refl
one-or-two words.Assume h = inl refl
one-or-two words.EqMp h = inr refl
one-or-two words.AbsThm h = inr refl
one-or-two words.AppThm h = inr refl
one-or-two words.DeductAntisym h = inr refl
one-or-two words.BetaConv h = inl refl
one-or-two words.Subst h = inr refl
one-or-two words.Sym h = inl refl
one-or-two words.Trans h = inr refl
one-or-two words.ProveHyp h = inr refl
one-or-two words.Axiom h = inr refl
one-or-two _ h = absurd (cc)

-- a word that makes theorems has one operand or two
pub few-operands : (s : Session) (w : Cmd) (is : List ℕ) → makes_theorem w ≡ true
    → HasResult (value (Make w (origins_of s is)))
    → (0 < length is) × (length is < 3)
few-operands s w is m h = elim (one-or-two w m) [
  | inl e ↦ let n = made-long s w is h ∙ e in (omega (arith, n), omega (arith, n))
  | inr e ↦ let n = made-long s w is h ∙ e in (omega (arith, n), omega (arith, n))
]

-- ---- definitions

pub accepted : (s : Session) (w : Cmd) (is : List ℕ) → IsDefinable (Define w (origins_of s is))
    → (ds : List (Definition Name)) × (vs : List Object) × (values (origins_of s is) ≡ Ok vs)
    × HasResult (defines w ds vs)
accepted s w is h =
    let (vs, p, k) = bind-ok (values (origins_of s is)) _ h.1.0 h.1.1 in
    (h.0, vs, p, (h.1.0, k))

-- what a word defines of these values, where it is accepted of the steps that have them
pub defines-something : (s : Session) (w : Cmd) (is : List ℕ) (vs : List Object)
    → IsDefinable (Define w (origins_of s is))
    → values (origins_of s is) ≡ Ok vs → (ds : List (Definition Name)) × HasResult (defines w ds vs)
defines-something s w is vs h e =
    let (ds, us, p, d) = accepted s w is h in
    (ds, subst (λ z. HasResult (defines w ds z)) (same_Ok us vs (sym p ∙ e)) d)

pub defined-long : (s : Session) (w : Cmd) (is : List ℕ) → IsDefinable (Define w (origins_of s is))
    → length is ≡ definition_arity w
defined-long s w is h =
    let (ds, vs, p, d) = accepted s w is h in
    let (u, q, l) = bind-ok (unless StackEmpty (length vs == definition_arity w)) _ d.0 d.1 in
    sym (values-long s is vs p) ∙ same-number (length vs) (definition_arity w)
    (unless-ok StackEmpty (length vs == definition_arity w) u q)

-- no other word defines
pub defining-word : (s : Session) (w : Cmd) (is : List ℕ) → IsDefinable (Define w (origins_of s is))
    → (w ≡ words.DefineConst → ⊥) → (w ≡ words.DefineConstList → ⊥) → (w ≡ words.DefineTypeOp → ⊥) → ⊥
defining-word s w is h a b c =
    let (ds, vs, p, d) = accepted s w is h in
    let (u, q, l) = bind-ok (unless StackEmpty (length vs == definition_arity w)) _ d.0 d.1 in
    other w ds vs d.0 a b c l
  where
    other : (w : Cmd) (ds : List (Definition Name)) (vs : List Object) (x : Definition Name)
        → (w ≡ words.DefineConst → ⊥)
        → (w ≡ words.DefineConstList → ⊥) → (w ≡ words.DefineTypeOp → ⊥) → defined_by w ds (λ n. value_at n vs) ≡ Ok x
        → ⊥
    other words.DefineConst ds vs x a b c e = a refl
    other words.DefineConstList ds vs x a b c e = b refl
    other words.DefineTypeOp ds vs x a b c e = c refl
    other _ ds vs x a b c e = absurd (cc)
