-- The records of words and their sequents, over plain values.
use Rattle.std.specs.Prelude.{not, ◌&&◌, ◌-◌, nat_eq, IsErrAnd}
use Rattle.std.specs.List.{list_all}
use Rattle.std.proofs.Common.{◌≡◌, ℕ, Bool, true, cond, List, [], ◌∷◌, map}
use Rattle.std.proofs.Common.{Option, Some, Result, Ok, Err, refl, sym, ap, subst}
use Rattle.std.proofs.Common.{◌∙◌}
use Rattle.ot_logic.specs.Names.{Name}
use Rattle.ot_logic.specs.Naming.{names}
use Rattle.ot_logic.specs.Table.{Extends, IsInjective}
use Rattle.ot_logic.specs.Trees.{Ty, Tm, App, Abs, Sequent}
use Rattle.ot_logic.specs.Hol.{TypeMap, TermMap, bool_ty, type_of, equation}
use Rattle.ot_logic.specs.Hol.{opened, sequent_of, subst_tm, once_each, same_tm}
use Rattle.ot_logic.specs.Hol.{is_in, as_equation}
use Rattle.ot_logic.specs.Faults.{Fault, NotBool}
use Rattle.ot_logic.specs.Answers.{◌>>=◌, unless}
use Rattle.ot_logic.specs.Rules.{has_type, proved_hyp, refl_rule, beta_conv_rule, subst_rule, sym_rule, trans_rule}
use Rattle.ot_logic.specs.Rules.{prove_hyp_rule}
use Rattle.ot_logic.specs.declared.command.Cmd.{Cmd}
use Rattle.ot_logic.specs.declared.command.Cmd.TheVariants as words
use Rattle.ot_laws.proofs.Tests.{tells_names}
use Rattle.ot_laws.proofs.Steps.{within_limit-ok}
use Rattle.ot_log_format.specs.Tokens.{LogFault, BadStep}
use Rattle.ot_log_format.specs.Steps.{Step, is_well_typed, is_proposition, refl_step}
use Rattle.ot_log_format.specs.Steps.{beta_step, subst_step, assumption_step}
use Rattle.ot_log_format.specs.Steps.{first_pairs}
use Rattle.ot_log_records.specs.Entries.{Entry}
use Rattle.ot_log_records.specs.Logged.{Log, write_sequents}
use Rattle.ot_log_records.specs.Expansions.{sym_entries, sym_of, trans_of, prove_hyp_entries}
use Rattle.ot_log_format.proofs.Firsts.{subst-first}
use Rattle.ot_log_nodes.specs.Items.{Item, type_at, term_at}
use Rattle.ot_log_rules.specs.Statements.{sequent_at, HasStatement, Gives}
use Rattle.ot_log_rules.specs.declared.statement.Statement.{Statement}
use Rattle.ot_log_rules.specs.declared.statement.StepFault.{StepFault}
use Rattle.ot_log_rules.specs.declared.statement.StepFault.TheVariants as fault
use Rattle.ot_log_rules.specs.declared.shapes.Sides.{Sides}
use Rattle.ot_log_rules.specs.Shapes.{AreSides, HasSides}
use Rattle.ot_log_rules.proofs.Numbers.{same-terms}
use Rattle.ot_log_rules.proofs.Staying.{sequent-stays}
use Rattle.ot_log_page.specs.Derived.{Derives, IsStatementOf}
use Rattle.ot_kernel.specs.Axioms.{axiom_rule}
use Rattle.ot_log_page.specs.Sheets.{Adds, Shows}
use Rattle.ot_log_page.specs.declared.sheet.Sheet.{Sheet}
use Rattle.ot_log_page.proofs.Adding.{shows-grown}
use Rattle.ot_machine.specs.Objects.{Object, term, theorem}
use Rattle.ot_machine.specs.Makers.{maker}
use Rattle.ot_machine.specs.Values.{applied}
use Rattle.ot_log_law.specs.Derived.{theorem_entries}
use Rattle.ot_log_words.specs.Recording.{HasResult, IsNotRefused, IsTheoremOf, Records, sides_at}
use Rattle.ot_log_words.specs.declared.words.Made.{Made}
use Rattle.ot_logic.proofs.Results.{bind-ok, same_Ok, unless-ok}
use Rattle.ot_logic.specs.RanOut.{ran_out}

-- ---- tables that grow

pub adds-grown : (ts us : List Item) (a b : Sheet) (es : Log → List Entry) (n : ℕ) → Extends ts us
    → Adds ts ts a b es n
    → Adds ts us a b es n
adds-grown ts us a b es n e h = λ max x s. let r = h max x s in
    (shows-grown ts us max b (write_sequents (es x) x) e r.0, r.1)

pub adds-later : (ts us vs : List Item) (a b : Sheet) (es : Log → List Entry) (n : ℕ) → Extends ts us
    → Adds us vs a b es n
    → Adds ts vs a b es n
adds-later ts us vs a b es n e h = λ max x s. h max x (shows-grown ts us max a x e s)

-- ---- sequents

pub theorem-of : (m : Result (Sequent Name) (Fault Name)) (q : Sequent Name) → ((r : Sequent Name) → m ≡ Ok r → q ≡ r)
    → IsTheoremOf (m >>= λ r. Ok (theorem r)) q
theorem-of m q f = λ o e. let (r, p, k) = bind-ok m _ o e in sym (same_Ok (theorem r) o k) ∙ ap theorem (sym (f r p))

pub result-of : (m : Result (Sequent Name) (Fault Name)) → HasResult (m >>= λ r. Ok (theorem r)) → HasResult m
result-of m h = let (r, p, k) = bind-ok m _ h.0 h.1 in (r, p)

-- a rule that is a step gives what the step gives
pub stepped : (rule : Result (Sequent Name) (Fault Name)) (step : Step names) (q : Sequent Name)
    → ((r : Sequent Name) → rule ≡ Ok r → step ≡ Ok r) → step ≡ Ok q → IsTheoremOf (rule >>= λ r. Ok (theorem r)) q
stepped rule step q f e = theorem-of rule q (λ r p. same_Ok q r (sym e ∙ f r p))

pub refl-value : (t : Tm Name) (q : Sequent Name) → refl_step names t ≡ Ok q
    → IsTheoremOf (refl_rule names t >>= λ r. Ok (theorem r)) q
refl-value t q s = theorem-of (refl_rule names t) q (λ r p.
    let made : Sequent Name = sequent_of names (equation names (type_of names t) t t) in
    let (u, e, k) = bind-ok (unless BadStep (is_well_typed names t)) _ q s in
    sym (same_Ok made q k) ∙ (within_limit-ok names tells_names made r p).1)

pub beta-value : (t : Tm Name) (q : Sequent Name) → beta_step names t ≡ Ok q
    → IsTheoremOf (beta_conv_rule names t >>= λ r. Ok (theorem r)) q
beta-value t q s = theorem-of (beta_conv_rule names t) q (λ r p. go t s r p)
  where
    go : (t : Tm Name) → beta_step names t ≡ Ok q → (r : Sequent Name) → beta_conv_rule names t ≡ Ok r → q ≡ r
    go (App (Abs a b) u) s r p =
        let t : Tm Name = App (Abs a b) u in
        let made : Sequent Name = sequent_of names (equation names (type_of names t) t (opened names b u)) in
        let (v, e, k) = bind-ok (unless BadStep (is_well_typed names t)) _ q s in
        sym (same_Ok made q k) ∙ (within_limit-ok names tells_names made r p).1
    go _ s r p = absurd (cc)

pub subst-value : (s : TypeMap names) (m : TermMap names) (a q : Sequent Name) → subst_step names s m a ≡ Ok q
    → IsTheoremOf (subst_rule names s m a >>= λ r. Ok (theorem r)) q
subst-value s m a q h = theorem-of (subst_rule names s m a) q (λ r p.
    let made : (Tm Name → Tm Name) → Sequent Name =
    λ f. record { hyps = once_each names (map f a.hyps); concl = f a.concl } in
    let same : subst_tm names s (first_pairs names m) ≡ subst_tm names s m =
    λ i t. subst-first names tells_names s m t i in
    let (u, e, k) = bind-ok (unless BadStep (list_all (λ p. has_type names p.1 p.0.ty) (first_pairs names m))) _ q
    h in
    sym (same_Ok (made (subst_tm names s (first_pairs names m))) q k) ∙ ap made same
    ∙ (within_limit-ok names tells_names (made (subst_tm names s m)) r p).1)

pub axiom-value : (hyps : List (Tm Name)) (p : Tm Name) (q : Sequent Name) → assumption_step names hyps p ≡ Ok q
    → IsTheoremOf (axiom_rule hyps p >>= λ r. Ok (theorem r)) q
axiom-value hyps p q h = theorem-of (axiom_rule hyps p) q (λ r k.
    let made : Sequent Name = record { hyps = once_each names hyps; concl = p } in
    let (u, e, l) = bind-ok (unless BadStep (is_proposition names p && list_all (is_proposition names) hyps)) _ q h in
    let (v, f, m) = bind-ok (unless NotBool (has_type names p (bool_ty names))) _ r k in
    let (w, g, n) = bind-ok (unless NotBool (list_all (λ t. has_type names t (bool_ty names)) hyps)) _ r m in
    sym (same_Ok made q l) ∙ same_Ok made r n)

-- ---- what isn't refused

-- a fault that is handed on
pub handed : {A : Type 0} (r : Result A StepFault) (e : StepFault) → IsErrAnd r (λ x. x ≡ e) → e ≡ fault.Memory ran_out
    → IsNotRefused r
handed {A} (Ok a) e h m = tt
handed {A} (Err x) e h m = subst (λ z. IsNotRefused {A = A} (Err z)) (sym (h ∙ m)) tt

pub err-ok : {A : Type 0} (x : A) → ◌≡◌ {A = Result A LogFault} (Err BadStep) (Ok x) → ⊥
err-ok x h = cc

gives-memory : (e : StepFault) (step : Step names) (ts : List Item) (q : Sequent Name) → Gives (Err e) step ts
    → step ≡ Ok q
    → e ≡ fault.Memory ran_out
gives-memory fault.BadStep step ts q g k = absurd (err-ok q (sym g ∙ k))
gives-memory (fault.Memory memory) step ts q g k = refl

-- a step that gives a sequent isn't refused
pub gives-taken : {A : Type 0} (r : Result A StepFault) (e : StepFault) (step : Step names) (ts : List Item)
    (q : Sequent Name)
    → IsErrAnd r (λ x. x ≡ e) → Gives (Err e) step ts → step ≡ Ok q → IsNotRefused r
gives-taken r e step ts q h g k = handed r e h (gives-memory e step ts q g k)

derives-memory : (e : StepFault) (ts : List Item) (q : Sequent Name) → Derives (Err e) ts q → e ≡ fault.Memory ran_out
derives-memory fault.BadStep ts q g = absurd g
derives-memory (fault.Memory memory) ts q g = refl

pub derives-taken : {A : Type 0} (r : Result A StepFault) (e : StepFault) (ts : List Item) (q : Sequent Name)
    → IsErrAnd r (λ x. x ≡ e) → Derives (Err e) ts q → IsNotRefused r
derives-taken r e ts q h g = handed r e h (derives-memory e ts q g)

pub axiom-ruled : (hyps : List (Tm Name)) (p : Tm Name) (q : Sequent Name) → axiom_rule hyps p ≡ Ok q
    → assumption_step names hyps p ≡ Ok q
axiom-ruled hyps p q h =
    let made : Sequent Name = record { hyps = once_each names hyps; concl = p } in
    let first = has_type names p (bool_ty names) in
    let others = list_all (λ t. has_type names t (bool_ty names)) hyps in
    let (u, e, k) = bind-ok (unless NotBool first) _ q h in
    let (v, f, l) = bind-ok (unless NotBool others) _ q k in
    let b : (first && others) ≡ true = λ i. unless-ok NotBool first u e i && unless-ok NotBool others v f i in
    ap (λ z. unless BadStep z >>= λ _. Ok made) b ∙ ap Ok (same_Ok made q l)

-- the words that make something of a term alone
pub one-term : (w : Cmd) (t : Tm Name) (o : Object) → (w ≡ words.Refl → ⊥) → (w ≡ words.Assume → ⊥)
    → (w ≡ words.BetaConv → ⊥)
    → applied (maker w) (term t ∷ []) ≡ Ok o → ⊥
one-term words.Refl t o a b c e = a refl
one-term words.Assume t o a b c e = b refl
one-term words.BetaConv t o a b c e = c refl
one-term _ t o a b c e = absurd (cc)

-- the words that make something of two theorems
pub two-theorems : (w : Cmd) (q r : Sequent Name) (o : Object) → (w ≡ words.EqMp → ⊥) → (w ≡ words.AppThm → ⊥)
    → (w ≡ words.DeductAntisym → ⊥) → (w ≡ words.Trans → ⊥) → (w ≡ words.ProveHyp → ⊥)
    → applied (maker w) (theorem q ∷ theorem r ∷ []) ≡ Ok o → ⊥
two-theorems words.EqMp q r o a b c d e h = a refl
two-theorems words.AppThm q r o a b c d e h = b refl
two-theorems words.DeductAntisym q r o a b c d e h = c refl
two-theorems words.Trans q r o a b c d e h = d refl
two-theorems words.ProveHyp q r o a b c d e h = e refl
two-theorems _ q r o a b c d e h = absurd (cc)

-- ---- a word's records

module _ (ts us : List Item) (a b : Sheet) (n : ℕ) (q : Statement) (e : Extends ts us) where
  pub made-records : (w : Cmd) (vs : List Object) (is : List ℕ)
      → Adds ts ts a b (λ x. theorem_entries x.sequents w vs is) n
      → HasStatement us q → IsTheoremOf (applied (maker w) vs) (sequent_at us q)
      → Records ts us a b w vs is (record { statement = q; number = n })
  made-records w vs is A h v = record {
    adds = adds-grown ts us a b (λ x. theorem_entries x.sequents w vs is) n e A;
    has = h;
    value = v;
  }

-- ---- sym, trans and proveHyp

module _ (ts mid us : List Item) (e : Extends ts mid) (f : Extends mid us) (a b : Sheet) (n : ℕ) (q : Statement) where
  pub sym-records : (th : Statement) (s : Sides) (i : ℕ) → HasStatement ts th → AreSides ts th.concl s
      → Adds ts mid a b (λ x. sym_entries x.sequents (type_at ts s.ty) (term_at ts s.left) i) n
      → HasResult (applied (maker words.Sym) (theorem (sequent_at ts th) ∷ []))
      → ((r : Sequent Name) → sym_rule names (sequent_at mid th) ≡ Ok r → IsStatementOf us r q)
      → Records ts us a b words.Sym (theorem (sequent_at ts th) ∷ []) (i ∷ []) (record { statement = q; number = n })
  sym-records th s i h are A v made =
      let one = sequent_at ts th in
      let r = result-of (sym_rule names one) v in
      let m = made r.0 (ap (sym_rule names) (sequent-stays ts mid e th h) ∙ r.1) in
      record {
        adds = λ max x k.
            let z = A max x k in
            subst (λ o. Shows us max b (write_sequents (sym_of x.sequents o i) x)
            × (n ≡ (write_sequents (sym_of x.sequents o i) x).sequents - 1)) (sym are.is) (
              shows-grown mid us max b
                  (write_sequents (sym_entries x.sequents (type_at ts s.ty) (term_at ts s.left) i) x) f z.0,
              z.1,
            );
        has = m.0;
        value = theorem-of (sym_rule names one) (sequent_at us q) (λ t p. m.1 ∙ same_Ok r.0 t (sym r.1 ∙ p));
      }

  pub trans-records : (th up : Statement) (s t : Sides) (i j : ℕ) → HasStatement ts th → HasStatement ts up
      → AreSides ts th.concl s → AreSides ts up.concl t
      → Adds ts mid a b (λ x. trans_of x.sequents (Some (sides_at ts s)) (Some (sides_at ts t)) i j) n
      → HasResult (applied (maker words.Trans) (theorem (sequent_at ts th) ∷ theorem (sequent_at ts up) ∷ []))
      → ((r : Sequent Name) → trans_rule names (sequent_at mid th) (sequent_at mid up) ≡ Ok r → IsStatementOf us r q)
      → Records ts us a b words.Trans (theorem (sequent_at ts th) ∷ theorem (sequent_at ts up) ∷ []) (i ∷ j ∷ [])
      (record { statement = q; number = n })
  trans-records th up s t i j h k are these A v made =
      let one = sequent_at ts th in
      let two = sequent_at ts up in
      let r = result-of (trans_rule names one two) v in
      let stay = sequent-stays ts mid e th h in
      let stays = sequent-stays ts mid e up k in
      let m = made r.0 ((λ z. trans_rule names (stay z) (stays z)) ∙ r.1) in
      let es : Option (Ty Name × Tm Name × Tm Name) → Option (Ty Name × Tm Name × Tm Name) → Log
      → List Entry = λ o p x. trans_of x.sequents o p i j in
      let grown : Adds ts us a b (λ x. trans_of x.sequents (Some (sides_at ts s)) (Some (sides_at ts t)) i j) n =
      λ max x l. let z = A max x l in (
        shows-grown mid us max b
            (write_sequents (trans_of x.sequents (Some (sides_at ts s)) (Some (sides_at ts t)) i j) x) f z.0,
        z.1,
      ) in
      record {
        adds = subst (λ o. Adds ts us a b (es o (as_equation names two.concl)) n) (sym are.is)
            (subst (λ p. Adds ts us a b (es (Some (sides_at ts s)) p) n) (sym these.is) grown);
        has = m.0;
        value = theorem-of (trans_rule names one two) (sequent_at us q) (λ t p. m.1 ∙ same_Ok r.0 t (sym r.1 ∙ p));
      }

-- which equation comes first
pub chain-by : (ts : List Item) (one : IsInjective ts) (e f : Sides) (b : Bool) → HasSides ts e → HasSides ts f
    → nat_eq e.right f.left ≡ b → same_tm names (term_at ts e.right) (term_at ts f.left) ≡ b
chain-by ts one e f b g h p = same-terms ts one e.right f.left g.right h.left ∙ p

abbrev pub is_lower : Sequent Name → Sequent Name → Bool
is_lower a b = not (is_in names b.concl a.hyps) && is_in names a.concl b.hyps

pub proved-records : (ts : List Item) (a b : Sheet) (n : ℕ) (q : Statement) (one two : Sequent Name) (i j : ℕ)
    (t : Bool)
    → is_lower one two ≡ t
    → Adds ts ts a b (λ x. cond t (prove_hyp_entries x.sequents i j) (prove_hyp_entries x.sequents j i)) n
    → IsStatementOf ts (cond t (proved_hyp names one two) (proved_hyp names two one)) q
    → Records ts ts a b words.ProveHyp (theorem one ∷ theorem two ∷ []) (i ∷ j ∷ [])
    (record { statement = q; number = n })
proved-records ts a b n q one two i j t e A m = record {
  adds = subst
      (λ t. Adds ts ts a b (λ x. cond t (prove_hyp_entries x.sequents i j) (prove_hyp_entries x.sequents j i)) n)
      (sym e)
      A;
  has = m.0;
  value = theorem-of (prove_hyp_rule names one two) (sequent_at ts q)
      (λ r p. m.1 ∙ ap (λ t. cond t (proved_hyp names one two) (proved_hyp names two one)) (sym e) ∙ same_Ok _ r p);
}

pub records-later : (ts us vs : List Item) (a b : Sheet) → Extends ts us
    → (w : Cmd) (os : List Object) (is : List ℕ) (m : Made)
    → Records us vs a b w os is m → Records ts vs a b w os is m
records-later ts us vs a b e w os is m r = record {
  adds = adds-later ts us vs a b (λ x. theorem_entries x.sequents w os is) m.number e r.adds;
  has = r.has;
  value = r.value;
}
