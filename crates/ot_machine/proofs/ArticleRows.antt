-- The rows of an article alone keep it lawful.
use Rattle.std.specs.Prelude.{◌≡◌, ℕ, ℤ, Bool, true, false, cond, List, [], ◌∷◌, ◌++◌, Some, None, Result, Ok}
use Rattle.std.specs.List.{All}
use Rattle.std.specs.Ordering.{int_cmp, eq_by_cmp}
use Rattle.std.specs.Cmp.{int_cmp_total}
use Rattle.std.specs.FinMap.{FinMap, get, insert, remove, get-insert, get-remove}
use Rattle.std.proofs.Common.{refl, sym, ap, ◌∙◌, subst}
use Rattle.std.proofs.lemmas.Option.{same_Some}
use Rattle.std.proofs.lemmas.List.Elements.{All-nil, All-cons, All-append}
use Rattle.ot_logic.specs.Names.{Name}
use Rattle.ot_logic.specs.Naming.{names}
use Rattle.ot_logic.specs.Trees.{Tm, Sequent}
use Rattle.ot_logic.specs.Hol.{same_sequent}
use Rattle.ot_logic.specs.Faults.{Fault, NoEntry, ExportMismatch}
use Rattle.ot_logic.specs.Answers.{some_or, unless}
use Rattle.ot_machine.specs.Objects.{Objects, list, term, theorem}
use Rattle.ot_machine.specs.States.{Entry, Export, ArticleState, RunState}
use Rattle.ot_machine.specs.Places.{entry_at, object_at, dropped, as_list, as_term, as_theorem}
use Rattle.ot_machine.specs.Places.{as_each, number_on, list_on, term_on, terms_on, theorem_on}
use Rattle.ot_machine.specs.Rows.{def_row, ref_row, remove_row, thm_row, exported, is_exported, origin_at}
use Rattle.ot_machine.specs.Lawful.{Basis, run_basis, Fits, EntryFits, IsLawfulExport}
use Rattle.ot_machine.specs.Lawful.{StatesSequent, AreApart, IsLawfulArticle}
use Rattle.ot_machine.proofs.Tops.{same-ok}
use Rattle.ot_machine.proofs.StackRows.{AllFit, entry-fits, object-fits, dropped-fits, pushed-fits}
use Rattle.ot_machine.proofs.Apart.{apart-push, not-exported}
use Rattle.ot_machine.proofs.ObjectKinds.{list-is, term-is, theorem-is}
use Rattle.ot_logic.proofs.Results.{bind-ok, some_or-ok, unless-ok}

module _ (b : Basis) where
  -- the theorem, the list and the term at a place fit the origins there
  pub theorem-at : (n : ℕ) (stack : List Entry) (q : Sequent Name) → AllFit b stack → theorem_on n stack ≡ Ok q
      → Fits b (origin_at n stack) (theorem q)
  theorem-at n stack q all p =
      let a = bind-ok (object_at n stack) as_theorem q p in
      let f = object-fits b n stack a.0 all a.1 in
      rw f.1 (subst (Fits b f.0) (theorem-is a.0 q a.2) f.2)

  pub term-at : (n : ℕ) (stack : List Entry) (t : Tm Name) → AllFit b stack → term_on n stack ≡ Ok t
      → Fits b (origin_at n stack) (term t)
  term-at n stack t all p =
      let a = bind-ok (object_at n stack) as_term t p in
      let f = object-fits b n stack a.0 all a.1 in
      rw f.1 (subst (Fits b f.0) (term-is a.0 t a.2) f.2)

  pub list-at : (n : ℕ) (stack : List Entry) (os : Objects) → AllFit b stack → list_on n stack ≡ Ok os
      → Fits b (origin_at n stack) (list os)
  list-at n stack os all p =
      let a = bind-ok (object_at n stack) as_list os p in
      let f = object-fits b n stack a.0 all a.1 in
      rw f.1 (subst (Fits b f.0) (list-is a.0 os a.2) f.2)

  -- what stands in a dictionary fits
  abbrev pub AllHeld : FinMap int_cmp Entry → Type 0
  AllHeld d = (k : ℤ) (e : Entry) → get d k ≡ Some e → EntryFits b e

  insert-held : (d : FinMap int_cmp Entry) (k : ℤ) (x : Entry) → AllHeld d → EntryFits b x → AllHeld (insert d k x)
  insert-held d k x held f q e p = by (eq_by_cmp int_cmp q k) (sym (get-insert int_cmp_total d k x q) ∙ p)
    where
      by : (t : Bool) → cond t (Some x) (get d q) ≡ Some e → EntryFits b e
      by true r = subst (EntryFits b) (same_Some _ _ r) f
      by false r = held q e r

  remove-held : (d : FinMap int_cmp Entry) (k : ℤ) → AllHeld d → AllHeld (remove d k)
  remove-held d k held q e p = by (eq_by_cmp int_cmp q k) (sym (get-remove int_cmp_total d k q) ∙ p)
    where
      by : (t : Bool) → cond t None (get d q) ≡ Some e → EntryFits b e
      by true r = absurd (cc)
      by false r = held q e r

module _ (P : Name → Type 0) (run : RunState) where
  abbrev b : Basis
  b = run_basis P run

  abbrev pub KeepsArticle : (ArticleState → Result ArticleState (Fault Name)) → Type 0
  KeepsArticle change = (a c : ArticleState) → IsLawfulArticle P run a → change a ≡ Ok c → IsLawfulArticle P run c

  abbrev is : ArticleState → Result ArticleState (Fault Name)
  is a = Ok a

  answered : (a c : ArticleState) → IsLawfulArticle P run a → is a ≡ is c → IsLawfulArticle P run c
  answered a c h p = subst (IsLawfulArticle P run) (same-ok (is a) a c refl p) h

  pub def-keeps : KeepsArticle def_row
  def-keeps a c h p =
      let k = bind-ok (number_on 0 a.stack) _ _ p in
      let e = bind-ok (entry_at 1 a.stack) _ _ k.2 in
      answered _ c (record {
        stack = dropped-fits b 1 a.stack h.stack;
        dictionary = insert-held b a.dictionary k.0 e.0 h.dictionary (entry-fits b 1 a.stack e.0 h.stack e.1);
        exports = h.exports;
        stated = h.stated;
        apart = h.apart;
      }) e.2

  pub ref-keeps : KeepsArticle ref_row
  ref-keeps a c h p =
      let k = bind-ok (number_on 0 a.stack) _ _ p in
      let e = bind-ok (some_or (NoEntry k.0) (get a.dictionary k.0)) _ _ k.2 in
      let f = h.dictionary k.0 e.0 (some_or-ok _ _ _ e.1) in
      answered _ c (record {
        stack = pushed-fits b e.0 (dropped 1 a.stack) f (dropped-fits b 1 a.stack h.stack);
        dictionary = h.dictionary;
        exports = h.exports;
        stated = h.stated;
        apart = h.apart;
      }) e.2

  pub remove-keeps : KeepsArticle remove_row
  remove-keeps a c h p =
      let k = bind-ok (number_on 0 a.stack) _ _ p in
      let e = bind-ok (some_or (NoEntry k.0) (get a.dictionary k.0)) _ _ k.2 in
      let f = h.dictionary k.0 e.0 (some_or-ok _ _ _ e.1) in
      answered _ c (record {
        stack = pushed-fits b e.0 (dropped 1 a.stack) f (dropped-fits b 1 a.stack h.stack);
        dictionary = remove-held b a.dictionary k.0 h.dictionary;
        exports = h.exports;
        stated = h.stated;
        apart = h.apart;
      }) e.2

  abbrev ExportsLawful : List Export → Type 0
  ExportsLawful es = All (IsLawfulExport b) es × All StatesSequent es × AreApart (λ e. e.sequent) es

  more : (Q : Export → Type 0) (e : Export) (es : List Export) → All Q es → Q e → All Q (es ++ e ∷ [])
  more Q e es all f = All-append Q es (e ∷ []) all (All-cons Q e [] f (All-nil Q))

  export-keeps : (e : Export) (es : List Export) → ExportsLawful es → IsLawfulExport b e → StatesSequent e
      → ExportsLawful (exported e es)
  export-keeps e es h f says = by (is_exported e.sequent es) refl
    where
      by : (t : Bool) → is_exported e.sequent es ≡ t → ExportsLawful (cond t es (es ++ e ∷ []))
      by true q = h
      by false q = (
        more (IsLawfulExport b) e es h.0 f,
        more StatesSequent e es h.1 says,
        apart-push
            (λ (e : Export). e.sequent) es e h.2 (not-exported e.sequent es q),
      )

  same-list : (os qs : Objects) → list os ≡ list qs → os ≡ qs
  same-list os qs p = cc

  same-term : (t u : Tm Name) → term t ≡ term u → t ≡ u
  same-term t u p = cc

  pub thm-keeps : KeepsArticle thm_row
  thm-keeps a c h p =
      let t = bind-ok (term_on 0 a.stack) _ _ p in
      let hs = bind-ok (terms_on 1 a.stack) _ _ t.2 in
      let q = bind-ok (theorem_on 2 a.stack) _ _ hs.2 in
      let u = bind-ok (unless ExportMismatch (same_sequent names q.0 (record { hyps = hs.0; concl = t.0 }))) _ _
      q.2 in
      let l = bind-ok (list_on 1 a.stack) (as_each as_term) hs.0 hs.1 in
      let f = list-at b 1 a.stack l.0 h.stack l.1 in
      let g = term-at b 0 a.stack t.0 h.stack t.1 in
      let e : Export =
      record {
        sequent = q.0;
        roots = record {
          theorem = origin_at 2 a.stack;
          list = origin_at 1 a.stack;
          term = origin_at 0 a.stack;
        };
      } in
      let lawful : IsLawfulExport b e = record {
        proved = theorem-at b 2 a.stack q.0 h.stack q.1;
        objects = l.0;
        hyps = hs.0;
        are_terms = l.2;
        listed = f;
        concl = t.0;
        stated = g;
      } in
      let says : StatesSequent e = λ os hyps concl v w x.
      let one : l.0 ≡ os = same-list l.0 os (same-ok _ _ _ f.value_is v) in
      let two : hs.0 ≡ hyps = same-ok _ _ _ l.2 (ap (as_each as_term) one ∙ w) in
      let three : t.0 ≡ concl = same-term t.0 concl (same-ok _ _ _ g.value_is x) in
      (λ i. same_sequent names q.0 (record { hyps = sym two i; concl = sym three i })) ∙ unless-ok _ _ u.0 u.1
      in
      let es = export-keeps e a.exports (h.exports, h.stated, h.apart) lawful says in
      answered _ c
      (record {
        stack = dropped-fits b 3 a.stack h.stack;
        dictionary = h.dictionary;
        exports = es.0;
        stated = es.1;
        apart = es.2;
      }) u.2
