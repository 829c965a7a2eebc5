-- Lemmas on runs of lines.
use Rattle.std.proofs.Common.{◌≡◌, ℕ, true, false, List, [], ◌∷◌, ◌++◌, Some, Result}
use Rattle.std.proofs.Common.{Ok, Err, refl, sym, ap, ◌∙◌, arith, append_assoc}
use Rattle.std.proofs.lemmas.List.{append-nil}
use Rattle.std.specs.FinMap as dictionaries
use Rattle.std.specs.Prelude.{ℤ}
use Rattle.ot_logic.specs.Names.{Name}
use Rattle.ot_logic.specs.Naming.{names}
use Rattle.ot_logic.specs.Trees.{Tm, Sequent}
use Rattle.ot_logic.specs.Hol.{same_sequent}
use Rattle.ot_logic.specs.Faults.{Fault}
use Rattle.ot_logic.specs.Answers.{◌>>=◌}
use Rattle.ot_logic.specs.declared.command.Cmd.TheVariants as words
use Rattle.ot_trace.specs.Origins.{Origin, Number}
use Rattle.ot_machine.specs.Objects.{Objects, number, list, term, theorem}
use Rattle.ot_machine.specs.States.{Version, version_6, Entry, State, no_context}
use Rattle.ot_machine.specs.Places.{as_each, as_term, entry_at}
use Rattle.ot_machine.specs.Rows.{is_exported}
use Rattle.ot_machine.specs.Step.{Command, is_version, version_rule, row, counted, word_row}
use Rattle.ot_written.specs.Written.{Line}
use Rattle.ot_machine.specs.Marks.{mark}
use Rattle.ot_article.proofs.LineRun.{command, line_step, run, marks, marks_after}
use Rattle.ot_article.proofs.Frames.{entry, entry-here, dropped-here}
use Rattle.ot_article.proofs.RowsHere.{with_stack}

pub run-snoc : (ls : List (Line Name)) (l : Line Name) (s u v : State) → run ls s ≡ Ok u → line_step l u ≡ Ok v
    → run (ls ++ l ∷ []) s ≡ Ok v
run-snoc [] l s u v p q = let e : s ≡ u = cc in rw e (rw q refl)
run-snoc (k ∷ ls) l s u v p q = go (line_step k s) p (λ t h. run-snoc ls l t u v h q)
  where
    go : (o : Result State (Fault Name)) → (o >>= run ls) ≡ Ok u
        → ((t : State) → run ls t ≡ Ok u → run (ls ++ l ∷ []) t ≡ Ok v) → (o >>= run (ls ++ l ∷ [])) ≡ Ok v
    go (Err f) h rest = absurd (cc)
    go (Ok t) h rest = rest t h

pub marks-snoc : (ls : List (Line Name)) (l : Line Name) (s u v : State) → run ls s ≡ Ok u → line_step l u ≡ Ok v
    → marks (ls ++ l ∷ []) s ≡ marks ls s ++ mark (command l) v
marks-snoc [] l s u v p q = let e : s ≡ u = cc in rw e (rw q (append-nil (mark (command l) v)))
marks-snoc (k ∷ ls) l s u v p q = go (line_step k s) p (λ t h. marks-snoc ls l t u v h q)
  where
    go : (o : Result State (Fault Name)) → (o >>= run ls) ≡ Ok u
        → ((t : State) → run ls t ≡ Ok u → marks (ls ++ l ∷ []) t ≡ marks ls t ++ mark (command l) v)
        → marks_after k o (marks (ls ++ l ∷ [])) ≡ marks_after k o (marks ls) ++ mark (command l) v
    go (Err f) h rest = absurd (cc)
    go (Ok t) h rest = ap (λ ms. mark (command k) t ++ ms) (rest t h)
        ∙ sym (append_assoc (mark (command k) t) (marks ls t) (mark (command l) v))

-- ---- a step after the first two

abbrev pub moved : State → State
moved s = record s { article = record (counted s.article) { version = version_6 } }

passes : (v : Version) (n : ℕ) (w : Command) → v ≡ version_6 → is_version w ≡ false
    → version_rule v n w ≡ Ok version_6
passes v n w h p = ap (λ z. version_rule z n w) h ∙ rw p refl

pub step-is : (l : Line Name) (s next : State) → s.article.version ≡ version_6 → is_version (command l) ≡ false
    → row version_6 no_context (command l) s ≡ Ok next → line_step l s ≡ Ok (moved next)
step-is l s next h v r = rw (passes s.article.version s.article.count (command l) h v, r) refl

-- ---- rows that read or change the stack, the dictionary and the exports

-- two entries on the top, one by one
pub second-here : (st : List Entry) (e k : Entry) → entry_at 1 ((st ++ e ∷ []) ++ k ∷ []) ≡ Ok e
second-here st e k = ap (entry_at 1) (append_assoc st (e ∷ []) (k ∷ []))
    ∙ entry-here st (e ∷ k ∷ []) 1 e (omega arith) refl

pub pop-row : (s : State) (st : List Entry) (e : Entry)
    → word_row version_6 no_context words.Pop (with_stack s (st ++ e ∷ [])) ≡ Ok (with_stack s st)
pop-row s st e = rw (entry-here st (e ∷ []) 0 e (omega arith) refl, dropped-here st (e ∷ []) 1 refl) refl

pub def-row : (s : State) (st : List Entry) (e : Entry) (key : ℤ)
    → word_row version_6 no_context words.Def (with_stack s ((st ++ e ∷ []) ++ entry (number key) (Number key) ∷ []))
    ≡ Ok (record s {
      article = record s.article
          { stack = st ++ e ∷ []; dictionary = dictionaries.insert s.article.dictionary key e };
    })
def-row s st e key =
    let k : Entry = entry (number key) (Number key) in
    rw (
      entry-here (st ++ e ∷ []) (k ∷ []) 0 k (omega arith) refl,
      second-here st e k,
      dropped-here (st ++ e ∷ [])
          (k ∷ []) 1 refl,
    ) refl

pub ref-row : (s : State) (st : List Entry) (e : Entry) (key : ℤ) → dictionaries.get s.article.dictionary key ≡ Some e
    → word_row version_6 no_context words.Ref (with_stack s (st ++ entry (number key) (Number key) ∷ []))
    ≡ Ok (with_stack s (st ++ e ∷ []))
ref-row s st e key p =
    let k : Entry = entry (number key) (Number key) in
    rw (entry-here st (k ∷ []) 0 k (omega arith) refl, p, dropped-here st (k ∷ []) 1 refl) refl

pub thm-row : (s : State) (st : List Entry) (oa ob oc : Origin Name) (q : Sequent Name) (os : Objects)
    (hyps : List (Tm Name)) (p : Tm Name) → as_each as_term os ≡ Ok hyps
    → same_sequent names q (record { hyps = hyps; concl = p }) ≡ true → is_exported q s.article.exports ≡ false
    → word_row version_6 no_context words.Thm
    (with_stack s (st ++ entry (theorem q) oa ∷ entry (list os) ob ∷ entry (term p) oc ∷ []))
    ≡ Ok (record s {
      article = record s.article {
        stack = st;
        exports = s.article.exports
            ++ record { sequent = q; roots = record { theorem = oa; list = ob; term = oc } } ∷ [];
      };
    })
thm-row s st oa ob oc q os hyps p each matches new =
    let a : Entry = entry (theorem q) oa in
    let b : Entry = entry (list os) ob in
    let c : Entry = entry (term p) oc in
    let es : List Entry = a ∷ b ∷ c ∷ [] in
    rw (
      entry-here st es 0 c (omega arith) refl,
      entry-here st es 1 b (omega arith) refl,
      entry-here st es 2 a
          (omega arith) refl,
      each,
      matches,
      new,
      dropped-here st es 3 refl,
    ) refl
