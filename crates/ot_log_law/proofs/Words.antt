-- The records of a word make its theorem, in a log that has the theorems among its operands.
use Rattle.std.specs.Prelude.{slice_get}
use Rattle.std.specs.List.{AllByRecursion}
use Rattle.std.proofs.Common.{◌≡◌, ◌≢◌, ℕ, List, [], ◌∷◌, Some, Ok, refl, sym, ap, subst, ◌∙◌}
use Rattle.ot_logic.specs.Names.{Name}
use Rattle.ot_logic.specs.Naming.{names}
use Rattle.ot_logic.specs.Trees.{Tm, Sequent}
use Rattle.ot_logic.specs.Hol.{TypeMap, TermMap}
use Rattle.ot_logic.specs.declared.command.Cmd.{Cmd}
use Rattle.ot_logic.specs.declared.command.Cmd.TheVariants as words
use Rattle.ot_laws.proofs.Tests.{tells_names}
use Rattle.ot_log_format.specs.declared.word.RecordWord.{RecordWord}
use Rattle.ot_log_format.specs.declared.word.RecordWord.TheVariants as records
use Rattle.ot_log_format.specs.Steps.{Step, refl_step, assume_step, beta_step}
use Rattle.ot_log_format.specs.Steps.{eq_mp_step, app_thm_step, deduct_antisym_step}
use Rattle.ot_log_format.specs.State.{LogState, makes_sequent}
use Rattle.ot_machine.specs.Objects.{Object, Objects, list, variable, term, theorem}
use Rattle.ot_machine.specs.Places.{as_term, as_each}
use Rattle.ot_machine.specs.Writable.{IsWritable}
use Rattle.ot_machine.specs.NamesIn.{TmNamed, ObjectNamed, ObjectsNamed}
use Rattle.ot_machine.proofs.ObjectKinds.{term-is}
use Rattle.ot_log_records.specs.Expansions.{of_two, subst_entry, assumption_entry}
use Rattle.ot_log_records.specs.Same.{IsSame}
use Rattle.ot_log_records.specs.Logged.{Log}
use Rattle.ot_log_records.proofs.Standing.{Stands}
use Rattle.ot_log_records.proofs.Sequents.{Feeds, refl-feeds, assume-feeds, beta-feeds}
use Rattle.ot_log_records.proofs.Sequents.{eq_mp-feeds, app_thm-feeds, deduct_antisym-feeds}
use Rattle.ot_log_records.proofs.Ruled.{refl-ruled, assume-ruled, beta-ruled}
use Rattle.ot_log_records.proofs.Ruled.{eq_mp-ruled, app_thm-ruled, deduct_antisym-ruled}
use Rattle.ot_log_records.proofs.Same.{GivesSame, eq_mp-same, app_thm-same, deduct_antisym-same}
use Rattle.ot_log_law.specs.Derived.{read, theorem_entries}
use Rattle.ot_log_law.proofs.Kept.{IsKept}
use Rattle.ot_log_law.proofs.KeptObjects.{IsSound, AreSound, opened, first, each-term}
use Rattle.ot_log_law.proofs.Steps.{IsStep, ByRefl, ByAssume, ByBeta, ByAbsThm, BySubst, ByAxiom, BySym}
use Rattle.ot_log_law.proofs.Steps.{ByEqMp, ByAppThm, ByDeductAntisym, ByTrans, ByProveHyp}
use Rattle.ot_log_law.proofs.Read.{each-holds, maps-hold, maps-typed}
use Rattle.ot_log_law.proofs.Read as parts
use Rattle.ot_log_law.proofs.Values.{Each}
use Rattle.ot_log_law.proofs.Makes.{Numbers, AllNamed, Makes}
use Rattle.ot_log_law.proofs.Singles.{TypePair, TermPair, makes-term, makes-two}
use Rattle.ot_log_law.proofs.Singles.{abs_thm-makes, subst-makes, axiom-makes}
use Rattle.ot_log_law.proofs.Severals.{sym-makes, trans-makes, prove_hyp-makes}

-- ---- what is kept and named of lists

all-more : {A : Type 0} (P Q : A → Type 0) → ((x : A) → P x → Q x) → (xs : List A) → AllByRecursion P xs
    → AllByRecursion Q xs
all-more P Q f [] h = tt
all-more P Q f (x ∷ xs) h = (f x h.0, all-more P Q f xs h.1)

pub terms-named : (os : Objects) (ts : List (Tm Name)) → ObjectsNamed IsWritable os → as_each as_term os ≡ Ok ts
    → AllByRecursion (TmNamed IsWritable) ts
terms-named =
    each-holds (ObjectNamed IsWritable) (ObjectsNamed IsWritable) (λ os h. h) (λ o os h. h)
    as_term (TmNamed IsWritable) (λ o t h e. subst (ObjectNamed IsWritable) (term-is o t e) h)

-- ---- two theorems

-- the two numbers, and the log's sequents
record Two (st : LogState Name) (a b : Sequent Name) (is : List ℕ) : Type 0 where
  i : ℕ
  j : ℕ
  left : Sequent Name
  right : Sequent Name
  are : is ≡ i ∷ j ∷ []
  get_left : slice_get st.sequents i ≡ Some left
  get_right : slice_get st.sequents j ≡ Some right
  same_left : IsSame names a left
  same_right : IsSame names b right

two : (st : LogState Name) (a b : Sequent Name) (is : List ℕ) → Numbers st (theorem a ∷ theorem b ∷ []) is
    → Two st a b is
two st a b is (i, js, r, e, g, s, (j, ks, q, f, h, t, n)) = record {
  i = i;
  j = j;
  left = r;
  right = q;
  are = e ∙ ap (λ l. i ∷ l) (f ∙ ap (λ l. j ∷ l) n);
  get_left = g;
  get_right = h;
  same_left = s;
  same_right = t;
}

-- the records of these values and numbers
abbrev Records : Cmd → Log → LogState Name → Sequent Name → List Object → List ℕ → Type 0
Records w x st q vs is = Makes w x st (theorem_entries x.sequents w vs is) q

at : (w : Cmd) (x : Log) (st : LogState Name) (q : Sequent Name) (vs us : List Object) (is js : List ℕ) → vs ≡ us
    → is ≡ js
    → Records w x st q us js → Records w x st q vs is
at w x st q vs us is js e f m =
    subst (λ z. Records w x st q z is) (sym e) (subst (λ z. Records w x st q us z) (sym f) m)

by-two : (w : Cmd) (v : RecordWord) (x : Log) (st : LogState Name) (a b q : Sequent Name)
    (vs : List Object) (is : List ℕ) (rule : Sequent Name → Sequent Name → Step names)
    → w ≢ words.Axiom
    → ((i j : ℕ) → theorem_entries x.sequents w (theorem a ∷ theorem b ∷ []) (i ∷ j ∷ []) ≡ of_two v i j ∷ [])
    → ((i j : ℕ) (a' b' : Sequent Name) → slice_get st.sequents i ≡ Some a' → slice_get st.sequents j ≡ Some b'
    → Feeds st (of_two v i j) (makes_sequent names (rule a' b')))
    → ((a' b' : Sequent Name) → IsSame names a a' → IsSame names b b' → GivesSame names tells_names q (rule a' b'))
    → Stands x st
    → IsKept q → vs ≡ theorem a ∷ theorem b ∷ [] → Numbers st vs is → Records w x st q vs is
by-two w v x st a b q vs is rule n entries feeds same stand k s num =
    let t = two st a b is (subst (λ us. Numbers st us is) s num) in
    at w x st q vs (theorem a ∷ theorem b ∷ []) is (t.i ∷ t.j ∷ []) s t.are
    (subst (λ es. Makes w x st es q) (sym (entries t.i t.j))
    (makes-two w v x st t.i t.j t.left t.right q (rule t.left t.right) n stand k t.get_left t.get_right
    (feeds t.i t.j t.left t.right t.get_left t.get_right) (same t.left t.right t.same_left t.same_right)))

-- ---- each word

pub word-makes : (w : Cmd) (vs : List Object) (q : Sequent Name) (x : Log) (st : LogState Name) (is : List ℕ)
    → IsStep vs q w
    → Each vs → AllNamed vs → IsKept q → Stands x st → Numbers st vs is → Records w x st q vs is
word-makes w vs q x st is (ByRefl t s h) k n kq stand num =
    let kt = (subst Each s k).0 in
    at words.Refl x st q vs (term t ∷ []) is [] s (subst (λ us. Numbers st us is) s num)
    (makes-term words.Refl records.Refl x st t (refl_step names t) q (λ e. cc) stand kq kt
    (subst AllNamed s n).0 (refl-feeds st t) (refl-ruled names tells_names t q kt.typed h))
word-makes w vs q x st is (ByAssume t s h) k n kq stand num =
    at words.Assume x st q vs (term t ∷ []) is [] s (subst (λ us. Numbers st us is) s num)
    (makes-term words.Assume records.Assume x st t (assume_step names t) q (λ e. cc) stand kq
    (subst Each s k).0 (subst AllNamed s n).0 (assume-feeds st t) (assume-ruled names tells_names t q h))
word-makes w vs q x st is (ByBeta t s h) k n kq stand num =
    let kt = (subst Each s k).0 in
    at words.BetaConv x st q vs (term t ∷ []) is [] s (subst (λ us. Numbers st us is) s num)
    (makes-term words.BetaConv records.BetaConv x st t (beta_step names t) q (λ e. cc) stand kq
    kt (subst AllNamed s n).0 (beta-feeds st t) (beta-ruled names tells_names t q kt.typed h))
word-makes w vs q x st is (ByAbsThm v a s h) k n kq stand num =
    let (i, js, r, e, g, same, rest) = subst (λ us. Numbers st us is) s num in
    let nm = (subst AllNamed s n).0 in
    at words.AbsThm x st q vs (variable v ∷ theorem a ∷ []) is (i ∷ []) s (e ∙ ap (λ l. i ∷ l) rest)
    (abs_thm-makes x st i v a r q stand kq (subst Each s k).0 nm.0 nm.1 g same h)
word-makes w vs q x st is (BySubst os maps a s e h) k n kq stand num =
    let (i, js, r, f, g, same, rest) = subst (λ us. Numbers st us is) s num in
    let (ts, us) = maps-hold IsSound AreSound opened first os maps ((subst Each s k).0, (subst AllNamed s n).0) e in
    let types = all-more (parts.TypePair IsSound AreSound opened first) TypePair (λ p z. (z.0.1, z.1)) maps.0 ts in
    let terms = all-more (parts.TermPair IsSound AreSound opened first)
    TermPair (λ p z. ((z.0.1.0, (z.0.0, z.0.1.1)), z.1)) maps.1 us in
    at words.Subst x st q vs (list os ∷ theorem a ∷ []) is (i ∷ []) s (f ∙ ap (λ l. i ∷ l) rest)
    (subst (λ z. Makes words.Subst x st (read (λ (m : TypeMap names × TermMap names). subst_entry m.0 m.1 i ∷ []) z)
    q) (sym e)
    (subst-makes x st i maps.0 maps.1 a r q stand kq (maps-typed os maps e) types terms g same h))
word-makes w vs q x st is (ByAxiom os hyps p s e h) k n kq stand num =
    at words.Axiom x st q vs (list os ∷ term p ∷ []) is [] s (subst (λ us. Numbers st us is) s num)
    (subst (λ z. Makes words.Axiom x st (read (λ hs. assumption_entry hs p ∷ []) z) q) (sym e)
    (axiom-makes x st hyps p q stand kq (each-term os hyps (subst Each s k).0 e)
    (subst Each s k).1.0 (terms-named os hyps (subst AllNamed s n).0 e) (subst AllNamed s n).1.0 h))
word-makes w vs q x st is (BySym a s h) k n kq stand num =
    let (i, js, r, e, g, same, rest) = subst (λ us. Numbers st us is) s num in
    at words.Sym x st q vs (theorem a ∷ []) is (i ∷ []) s (e ∙ ap (λ l. i ∷ l) rest)
    (sym-makes x st i a r q stand (subst Each s k).0 kq (subst AllNamed s n).0 g same h)
word-makes w vs q x st is (ByEqMp a b s h) k n kq stand num =
    by-two words.EqMp records.EqMp x st a b q vs is (eq_mp_step names) (λ e. cc) (λ i j. refl) (eq_mp-feeds st)
    (λ c d sa sb. eq_mp-same names tells_names a b c d q sa sb (eq_mp-ruled names tells_names a b q h)) stand kq s num
word-makes w vs q x st is (ByAppThm a b s h) k n kq stand num =
    by-two words.AppThm records.AppThm x st a b q vs is (app_thm_step names) (λ e. cc) (λ i j. refl)
    (app_thm-feeds st)
    (λ c d sa sb. app_thm-same names tells_names a b c d q sa sb (app_thm-ruled names tells_names a b q h)) stand kq s
    num
word-makes w vs q x st is (ByDeductAntisym a b s h) k n kq stand num =
    by-two words.DeductAntisym records.DeductAntisym x st a b q vs is (deduct_antisym_step names) (λ e. cc)
    (λ i j. refl) (deduct_antisym-feeds st) (λ c d sa sb. deduct_antisym-same names
    tells_names a b c d q sa sb (deduct_antisym-ruled names tells_names a b q h))
    stand kq s num
word-makes w vs q x st is (ByTrans a b s h) k n kq stand num =
    let t = two st a b is (subst (λ us. Numbers st us is) s num) in
    at words.Trans x st q vs (theorem a ∷ theorem b ∷ []) is (t.i ∷ t.j ∷ []) s t.are
    (trans-makes x st t.i t.j a b t.left t.right q stand (subst Each s k).0 (subst Each s k).1.0 kq
    (subst AllNamed s n).0 (subst AllNamed s n).1.0 t.get_left t.get_right t.same_left t.same_right h)
word-makes w vs q x st is (ByProveHyp a b s h) k n kq stand num =
    let t = two st a b is (subst (λ us. Numbers st us is) s num) in
    at words.ProveHyp x st q vs (theorem a ∷ theorem b ∷ []) is (t.i ∷ t.j ∷ []) s t.are
    (prove_hyp-makes x st t.i t.j a b t.left t.right q stand (subst Each s k).0
    (subst Each s k).1.0 kq t.get_left t.get_right t.same_left t.same_right h)
