-- A log whose tokens are read back: the words that stand for several records.
use Rattle.std.specs.Prelude.{slice_get}
use Rattle.std.proofs.Common.{◌≡◌, ℕ, suc, ◌+◌, true, List, [], ◌∷◌, ◌++◌, length, Some}
use Rattle.std.proofs.Common.{refl, sym, ap, ◌∙◌, arith, append-nil, append_assoc}
use Rattle.ot_logic.specs.Names.{Name}
use Rattle.ot_logic.specs.Naming.{names}
use Rattle.ot_logic.specs.Trees.{Ty, Tm, App, Sequent}
use Rattle.ot_logic.specs.Hol.{fun_ty, bool_ty, HasType, equation, minus, union, sequent_of}
use Rattle.ot_laws.proofs.Tests.{tells_names}
use Rattle.ot_laws.proofs.Typing.{app-typed}
use Rattle.ot_log_format.specs.declared.word.RecordWord.TheVariants as words
use Rattle.ot_log_format.specs.Steps.{is_sequent_within, refl_step, eq_mp_step, app_thm_step, deduct_antisym_step}
use Rattle.ot_log_format.specs.State.{LogState}
use Rattle.ot_log_records.specs.Entries.{Entry, term_nodes}
use Rattle.ot_log_records.specs.Expansions.{of_term, of_two, equals_at, sym_entries, trans_entries, prove_hyp_entries}
use Rattle.ot_log_records.specs.Logged.{Log, write_entry, count_sequent, write_sequents}
use Rattle.ot_log_records.proofs.Expanding.{refl-gives, eq_mp-gives, app_thm-gives, equals-typed}
use Rattle.ot_log_records.proofs.Standing.{Stands, AreWithin}
use Rattle.ot_log_records.proofs.Sequents.{MakesOne, sequent-stands, refl-feeds}
use Rattle.ot_log_records.proofs.Sequents.{eq_mp-feeds, app_thm-feeds, deduct_antisym-feeds}
use Rattle.ot_logic.proofs.TableLemmas.{slice_get-append_left}

-- ---- elements of lists that were put together

pub last-at : {X : Type 0} (xs : List X) (x : X) (k : ℕ) → length xs ≡ k → slice_get (xs ++ x ∷ []) k ≡ Some x
last-at [] x k h = ap (λ z. slice_get (x ∷ []) z) (sym h)
last-at (y ∷ xs) x k h = ap (λ z. slice_get ((y ∷ xs) ++ x ∷ []) z) (sym h) ∙ last-at xs x (length xs) refl

-- ---- sequents one after another

-- the log with the records stands for these sequents more, and nothing else
pub record MakesAll (x : Log) (st : LogState Name) (es : List Entry) (ss : List (Sequent Name)) : Type 0 where
  pub now : LogState Name
  pub stands : Stands (write_sequents es x) now
  pub sequents : now.sequents ≡ st.sequents ++ ss
  pub assumptions : now.assumptions ≡ st.assumptions
  pub definitions : now.definitions ≡ st.definitions
  pub results : now.results ≡ st.results

pub makes-none : (x : Log) (st : LogState Name) → Stands x st → MakesAll x st [] []
makes-none x st s = record {
  now = st;
  stands = s;
  sequents = sym (append-nil st.sequents);
  assumptions = refl;
  definitions = refl;
  results = refl;
}

pub makes-more : (x : Log) (st : LogState Name) (e : Entry) (es : List Entry)
    (s : Sequent Name) (ss : List (Sequent Name)) (o : MakesOne x st e s st.assumptions)
    → MakesAll (count_sequent (write_entry e x)) o.now es ss → MakesAll x st (e ∷ es) (s ∷ ss)
makes-more x st e es s ss o a = record {
  now = a.now;
  stands = a.stands;
  sequents = a.sequents ∙ ap (λ z. z ++ ss) o.sequents ∙ append_assoc st.sequents (s ∷ []) ss;
  assumptions = a.assumptions ∙ o.assumptions;
  definitions = a.definitions ∙ o.definitions;
  results = a.results ∙ o.results;
}

-- a sequent that was there is there still
older : (x : Log) (st : LogState Name) (e : Entry) (s : Sequent Name)
    (o : MakesOne x st e s st.assumptions) (i : ℕ) (q : Sequent Name)
    → slice_get st.sequents i ≡ Some q → slice_get o.now.sequents i ≡ Some q
older x st e s o i q h = ap (λ z. slice_get z i) o.sequents ∙ slice_get-append_left st.sequents (s ∷ []) i q h

-- and the new one has the next number
newest : (x : Log) (st : LogState Name) (e : Entry) (s : Sequent Name) (o : MakesOne x st e s st.assumptions) (k : ℕ)
    → length st.sequents ≡ k → slice_get o.now.sequents k ≡ Some s
newest x st e s o k h = ap (λ z. slice_get z k) o.sequents ∙ last-at st.sequents s k h

grown : (x : Log) (st : LogState Name) (e : Entry) (s : Sequent Name) (o : MakesOne x st e s st.assumptions) (k : ℕ)
    → length st.sequents ≡ k → length o.now.sequents ≡ k + 1
grown x st e s o k h = ap length o.sequents ∙ counted st.sequents s k h
  where
    counted : (xs : List (Sequent Name)) (q : Sequent Name) (n : ℕ) → length xs ≡ n → length (xs ++ q ∷ []) ≡ n + 1
    counted [] q n g = ap (λ z. z + 1) g
    counted (y ∷ xs) q n g = ap suc (counted xs q (length xs) refl) ∙ step (length xs) ∙ ap (λ z. z + 1) g
      where
        step : (m : ℕ) → suc (m + 1) ≡ suc m + 1
        step m = omega arith

-- ---- proveHyp

pub prove_hyp-stands : (x : Log) (st : LogState Name) (lemma other : Sequent Name) (i j : ℕ) → Stands x st
    → slice_get st.sequents i ≡ Some lemma → slice_get st.sequents j ≡ Some other
    → let g = union names (minus names other.concl lemma.hyps) (minus names lemma.concl other.hyps) in
    let d : Sequent Name = record { hyps = g; concl = equation names (bool_ty names) lemma.concl other.concl } in
    let q : Sequent Name = record { hyps = union names g lemma.hyps; concl = other.concl } in
    is_sequent_within names d ≡ true → is_sequent_within names q ≡ true
    → MakesAll x st (prove_hyp_entries x.sequents i j) (d ∷ q ∷ [])
prove_hyp-stands x st lemma other i j s h k v w =
    let g = union names (minus names other.concl lemma.hyps) (minus names lemma.concl other.hyps) in
    let d : Sequent Name = record { hyps = g; concl = equation names (bool_ty names) lemma.concl other.concl } in
    let q : Sequent Name = record { hyps = union names g lemma.hyps; concl = other.concl } in
    let e1 = of_two words.DeductAntisym i j in
    let e2 = of_two words.EqMp x.sequents i in
    let one = sequent-stands x st e1 (deduct_antisym_step names lemma other)
    d s tt (deduct_antisym-feeds st i j lemma other h k) refl v in
    let two = sequent-stands (count_sequent (write_entry e1 x)) one.now e2 (eq_mp_step names d lemma) q one.stands tt
    (eq_mp-feeds one.now x.sequents i d lemma (newest x st e1 d one x.sequents s.sequents)
    (older x st e1 d one i lemma h))
    (eq_mp-gives names tells_names d lemma (bool_ty names) lemma.concl other.concl refl refl) w in
    makes-more x st e1 (e2 ∷ []) d (q ∷ []) one
    (makes-more (count_sequent (write_entry e1 x)) one.now e2 [] q [] two (makes-none _ two.now two.stands))

-- ---- trans: of the first a = b and the second b = d

pub trans-stands : (x : Log) (st : LogState Name) (first second : Sequent Name) (i j : ℕ) (ty : Ty Name)
    (a b d : Tm Name)
    → Stands x st → slice_get st.sequents i ≡ Some first → slice_get st.sequents j ≡ Some second
    → first.concl ≡ equation names ty a b → second.concl ≡ equation names ty b d → HasType names a ty
    → AreWithin (term_nodes (App (equals_at ty) a) ++ [])
    → let r =
    sequent_of names
    (equation names (fun_ty names ty (bool_ty names)) (App (equals_at ty) a) (App (equals_at ty) a)) in
    let m : Sequent Name =
    record {
      hyps = union names [] second.hyps;
      concl = equation names (bool_ty names) (equation names ty a b) (equation names ty a d);
    } in
    let q : Sequent Name =
    record { hyps = union names (union names [] second.hyps) first.hyps; concl = equation names ty a d } in
    is_sequent_within names r ≡ true → is_sequent_within names m ≡ true → is_sequent_within names q ≡ true
    → MakesAll x st (trans_entries x.sequents ty a i j) (r ∷ m ∷ q ∷ [])
trans-stands x st first second i j ty a b d s h k e f w n v1 v2 v3 =
    let eq = equals_at ty in
    let r : Sequent Name =
    sequent_of names (equation names (fun_ty names ty (bool_ty names)) (App eq a) (App eq a)) in
    let m : Sequent Name =
    record {
      hyps = union names [] second.hyps;
      concl = equation names (bool_ty names) (equation names ty a b) (equation names ty a d);
    } in
    let q : Sequent Name =
    record { hyps = union names (union names [] second.hyps) first.hyps; concl = equation names ty a d } in
    let typed = app-typed names tells_names [] eq a ty (fun_ty names ty (bool_ty names)) refl w in
    let e1 = of_term words.Refl (App eq a) in
    let e2 = of_two words.AppThm x.sequents j in
    let e3 = of_two words.EqMp (x.sequents + 1) i in
    let x1 = count_sequent (write_entry e1 x) in
    let x2 = count_sequent (write_entry e2 x1) in
    let one = sequent-stands x st e1 (refl_step names (App eq a)) r s n (refl-feeds st (App eq a))
    (refl-gives names tells_names (App eq a) (fun_ty names ty (bool_ty names)) typed) v1 in
    let len1 = grown x st e1 r one x.sequents s.sequents in
    let two = sequent-stands x1 one.now e2 (app_thm_step names r second) m one.stands tt
    (app_thm-feeds one.now x.sequents j r second (newest x st e1 r one x.sequents s.sequents)
    (older x st e1 r one j second k))
    (app_thm-gives names tells_names r second ty (bool_ty names) (App eq a) (App eq a) b d refl f) v2 in
    let three = sequent-stands x2 two.now e3 (eq_mp_step names m first) q two.stands tt
    (eq_mp-feeds two.now (x.sequents + 1) i m first (newest x1 one.now e2 m two (x.sequents + 1) len1)
    (older x1 one.now e2 m two i first (older x st e1 r one i first h)))
    (eq_mp-gives names tells_names m first (bool_ty names) (equation names ty a b) (equation names ty a d) refl e)
    v3 in
    makes-more x st e1 (e2 ∷ e3 ∷ []) r (m ∷ q ∷ []) one
    (makes-more x1 one.now e2 (e3 ∷ []) m (q ∷ []) two
    (makes-more x2 two.now e3 [] q [] three (makes-none _ three.now three.stands)))

-- ---- sym: of t = u

pub sym-stands : (x : Log) (st : LogState Name) (a : Sequent Name) (i : ℕ) (ty : Ty Name) (t u : Tm Name)
    → Stands x st
    → slice_get st.sequents i ≡ Some a → a.concl ≡ equation names ty t u → HasType names t ty
    → AreWithin (term_nodes (equals_at ty) ++ []) → AreWithin (term_nodes t ++ [])
    → let to = fun_ty names ty (bool_ty names) in
    let r : Sequent Name = sequent_of names (equation names (fun_ty names ty to) (equals_at ty) (equals_at ty)) in
    let m : Sequent Name =
    record {
      hyps = union names [] a.hyps;
      concl = equation names to (App (equals_at ty) t)
          (App (equals_at ty) u);
    } in
    let l : Sequent Name = sequent_of names (equation names ty t t) in
    let n : Sequent Name =
    record {
      hyps = union names m.hyps [];
      concl = equation names (bool_ty names) (equation names ty t t) (equation names ty u t);
    } in
    let q : Sequent Name = record { hyps = union names n.hyps []; concl = equation names ty u t } in
    is_sequent_within names r ≡ true → is_sequent_within names m ≡ true → is_sequent_within names l ≡ true
    → is_sequent_within names n ≡ true → is_sequent_within names q ≡ true
    → MakesAll x st (sym_entries x.sequents ty t i) (r ∷ m ∷ l ∷ n ∷ q ∷ [])
sym-stands x st a i ty t u s h e w n1 n2 v1 v2 v3 v4 v5 =
    let eq = equals_at ty in
    let to = fun_ty names ty (bool_ty names) in
    let r : Sequent Name = sequent_of names (equation names (fun_ty names ty to) eq eq) in
    let m : Sequent Name = record { hyps = union names [] a.hyps; concl = equation names to (App eq t) (App eq u) } in
    let l : Sequent Name = sequent_of names (equation names ty t t) in
    let n : Sequent Name =
    record {
      hyps = union names m.hyps [];
      concl = equation names (bool_ty names) (equation names ty t t) (equation names ty u t);
    } in
    let q : Sequent Name = record { hyps = union names n.hyps []; concl = equation names ty u t } in
    let k = x.sequents in
    let e1 = of_term words.Refl eq in
    let e2 = of_two words.AppThm k i in
    let e3 = of_term words.Refl t in
    let e4 = of_two words.AppThm (k + 1) (k + 2) in
    let e5 = of_two words.EqMp (k + 3) (k + 2) in
    let x1 = count_sequent (write_entry e1 x) in
    let x2 = count_sequent (write_entry e2 x1) in
    let x3 = count_sequent (write_entry e3 x2) in
    let x4 = count_sequent (write_entry e4 x3) in
    let one = sequent-stands x st e1 (refl_step names eq) r s n1 (refl-feeds st eq)
    (refl-gives names tells_names eq (fun_ty names ty to) (equals-typed names tells_names ty)) v1 in
    let len1 = grown x st e1 r one k s.sequents in
    let two = sequent-stands x1 one.now e2 (app_thm_step names r a) m one.stands tt
    (app_thm-feeds one.now k i r a (newest x st e1 r one k s.sequents) (older x st e1 r one i a h))
    (app_thm-gives names tells_names r a ty to eq eq t u refl e) v2 in
    let len2 = grown x1 one.now e2 m two (k + 1) len1 ∙ next k 1 in
    let three = sequent-stands x2 two.now e3 (refl_step names t) l two.stands
    n2 (refl-feeds two.now t) (refl-gives names tells_names t ty w) v3 in
    let len3 = grown x2 two.now e3 l three (k + 2) len2 ∙ next k 2 in
    let at_m = older x2 two.now e3 l three (k + 1) m (newest x1 one.now e2 m two (k + 1) len1) in
    let at_l = newest x2 two.now e3 l three (k + 2) len2 in
    let four = sequent-stands x3 three.now e4 (app_thm_step names m l) n three.stands tt
    (app_thm-feeds three.now (k + 1) (k + 2) m l at_m at_l)
    (app_thm-gives names tells_names m l ty (bool_ty names) (App eq t) (App eq u) t t refl refl) v4 in
    let five = sequent-stands x4 four.now e5 (eq_mp_step names n l) q four.stands tt
    (eq_mp-feeds four.now (k + 3) (k + 2) n l (newest x3 three.now e4 n four (k + 3) len3)
    (older x3 three.now e4 n four (k + 2) l at_l))
    (eq_mp-gives names tells_names n l (bool_ty names) (equation names ty t t) (equation names ty u t) refl refl)
    v5 in
    makes-more x st e1 _ r _ one (makes-more x1 one.now e2 _ m _ two (makes-more x2 two.now e3 _ l _ three
    (makes-more x3 three.now e4 _ n _ four
    (makes-more x4 four.now e5 [] q [] five (makes-none _ five.now five.stands)))))
  where
    next : (a b : ℕ) → a + b + 1 ≡ a + (b + 1)
    next a b = omega arith
