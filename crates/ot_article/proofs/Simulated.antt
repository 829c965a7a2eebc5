-- Running a text: what each of its moves does.
use Rattle.std.proofs.Common.{◌≡◌, ℕ, ◌-◌, ◌<◌, inl, inr, Bool, true, false, cond, List, [], ◌∷◌, ◌++◌, length}
use Rattle.std.proofs.Common.{slice_get, Some, Result, Ok, Err, refl, sym, ap, ◌∙◌, arith}
use Rattle.std.proofs.lemmas.List.{append-nil}
use Rattle.std.proofs.lemmas.Cmp.{int_cmp_total, eq_by_cmp_equiv}
use Rattle.std.proofs.lemmas.Map.Lookups.{exact_signed}
use Rattle.std.proofs.lemmas.Map.Views.{tells_apart}
use Rattle.std.specs.FinMap as dictionaries
use Rattle.std.specs.FinMap.{FinMap}
use Rattle.std.specs.Ordering.{int_cmp, eq_by_cmp}
use Rattle.std.specs.Prelude.{ℤ, pos}
use Rattle.std.specs.List.{flat_map}
use Rattle.ot_logic.specs.Names.{Name}
use Rattle.ot_logic.specs.Trees.{Definition}
use Rattle.ot_logic.specs.Faults.{Fault}
use Rattle.ot_logic.specs.declared.command.Cmd.TheVariants as words
use Rattle.ot_trace.specs.Origins.{Origin, Number, Named, Make, Define}
use Rattle.ot_machine.specs.Objects.{Object, number, name, theorem}
use Rattle.ot_machine.specs.States.{version_6, Entry, Export, Given, Made, State, no_context}
use Rattle.ot_machine.specs.Step.{order, is_version, row}
use Rattle.ot_machine.specs.Values.{value, definition_of}
use Rattle.ot_written.specs.Written as w
use Rattle.ot_written.specs.Written.{Line, Numeral, Spelled, Order, Text}
use Rattle.ot_machine.specs.Marks.{mark}
use Rattle.ot_article.proofs.LineRun.{command, line_step, run, marks}
use Rattle.ot_machine.specs.Marks.{fresh}
use Rattle.ot_written.proofs.Members.{get-push}
use Rattle.ot_written.proofs.Filters.{bool_cases}
use Rattle.ot_written.proofs.Growth.{flat_map-snoc}
use Rattle.ot_article.proofs.Frames.{entry}
use Rattle.ot_article.proofs.RowsHere.{with_stack, same-stack}
use Rattle.ot_article.proofs.Runs.{run-snoc, marks-snoc, moved, step-is, pop-row, def-row, ref-row}

-- what a run assumes by an origin, and what it defines
abbrev pub taken_by : Origin Name → Result Object (Fault Name) → List Given
taken_by o (Ok (theorem q)) = record { sequent = q; origin = o } ∷ []
taken_by o _ = []

abbrev pub assumed_by : Origin Name → List Given
assumed_by (Make words.Axiom os) = taken_by (Make words.Axiom os) (value (Make words.Axiom os))
assumed_by _ = []

abbrev pub made_by : Origin Name → Result (Definition Name) (Fault Name) → List Made
made_by d (Ok x) = record { definition = x; origin = d } ∷ []
made_by d (Err f) = []

abbrev pub defined_by : Origin Name → List Made
defined_by (Define c os) = made_by (Define c os) (definition_of [] (Define c os))
defined_by _ = []

-- the dictionary has the value of an origin under a key
pub record HasEntry (held : FinMap int_cmp Entry) (k : ℕ) (o : Origin Name) : Type 0 where
  pub object : Object
  pub value_is : value o ≡ Ok object
  pub there : dictionaries.get held (pos k) ≡ Some (entry object o)

-- running the text leaves this stack and these exports, and what it stored, assumed and defined
pub record IsWritten (t : Text Name) (stack : List Entry) (xs : List Export) : Type 0 where
  pub now : State
  pub runs : run t.lines fresh ≡ Ok now
  pub marks_are : marks t.lines fresh ≡ t.made
  pub versioned : now.article.version ≡ version_6
  pub stack_is : now.article.stack ≡ stack
  pub exports : now.article.exports ≡ xs
  pub dictionary : (k : ℕ) (o : Origin Name) → slice_get t.stored k ≡ Some o → HasEntry now.article.dictionary k o
  pub assumptions : now.run.assumptions ≡ flat_map assumed_by t.made
  pub definitions : now.run.definitions ≡ flat_map defined_by t.made

module _ (same : Origin Name → Origin Name → Bool) where
  -- one line more, which makes an origin or none
  module _ (t : Text Name) (st : List Entry) (xs : List Export) (i : IsWritten t st xs) (l : Line Name) (next : State)
      (plain : is_version (command l) ≡ false)
      (row_is : row version_6 no_context (command l) (with_stack i.now st) ≡ Ok next) where
    steps : line_step l i.now ≡ Ok (moved next)
    steps = step-is l i.now next i.versioned plain
        (ap (row version_6 no_context (command l)) (same-stack i.now st i.stack_is) ∙ row_is)

    pub runs-on : run (t.lines ++ l ∷ []) fresh ≡ Ok (moved next)
    runs-on = run-snoc t.lines l fresh i.now (moved next) i.runs steps

    pub marks-on : (ms : List (Origin Name)) → mark (command l) (moved next) ≡ ms → marks (t.lines ++ l ∷ []) fresh
        ≡ t.made ++ ms
    marks-on ms h = marks-snoc t.lines l fresh i.now (moved next) i.runs steps
        ∙ ap (λ z. z ++ mark (command l) (moved next)) i.marks_are ∙ ap (λ z. t.made ++ z) h

  pub number-written : (t : Text Name) (st : List Entry) (xs : List Export) (k : ℤ) → IsWritten t st xs
      → IsWritten (w.put same (Numeral k) t) (st ++ entry (number k) (Number k) ∷ []) xs
  number-written t st xs k i =
      let next : State = with_stack i.now (st ++ entry (number k) (Number k) ∷ []) in
      record {
        now = moved next;
        runs = runs-on t st xs i (Numeral k) next refl refl;
        marks_are = marks-on t st xs i (Numeral k) next refl refl [] refl ∙ append-nil t.made;
        versioned = refl;
        stack_is = refl;
        exports = i.exports;
        dictionary = i.dictionary;
        assumptions = i.assumptions;
        definitions = i.definitions;
      }

  pub name-written : (t : Text Name) (st : List Entry) (xs : List Export) (n : Name) → IsWritten t st xs
      → IsWritten (w.make same (Named n) (Spelled n) t) (st ++ entry (name n) (Named n) ∷ []) xs
  name-written t st xs n i =
      let e : Entry = entry (name n) (Named n) in
      let next : State = with_stack i.now (st ++ e ∷ []) in
      record {
        now = moved next;
        runs = runs-on t st xs i (Spelled n) next refl refl;
        marks_are = marks-on t st xs i (Spelled n) next refl refl (Named n ∷ []) refl;
        versioned = refl;
        stack_is = refl;
        exports = i.exports;
        dictionary = i.dictionary;
        assumptions = i.assumptions
            ∙ sym (flat_map-snoc assumed_by t.made (Named n) ∙ append-nil (flat_map assumed_by t.made));
        definitions = i.definitions
            ∙ sym (flat_map-snoc defined_by t.made (Named n) ∙ append-nil (flat_map defined_by t.made));
      }

  pub store-written : (t : Text Name) (st : List Entry) (xs : List Export) (o : Origin Name) (v : Object) → value o
      ≡ Ok v → IsWritten t (st ++ entry v o ∷ []) xs → IsWritten (w.store same o t) (st ++ entry v o ∷ []) xs
  store-written t st xs o v value_is i =
      let k : ℕ = length t.stored in
      let e : Entry = entry v o in
      let u : Text Name = w.put same (Numeral (pos k)) t in
      let j = number-written t (st ++ e ∷ []) xs (pos k) i in
      let full : List Entry = (st ++ e ∷ []) ++ entry (number (pos k)) (Number (pos k)) ∷ [] in
      let held : FinMap int_cmp Entry = dictionaries.insert j.now.article.dictionary (pos k) e in
      let next : State =
      record j.now { article = record j.now.article { stack = st ++ e ∷ []; dictionary = held } } in
      let row_is : row version_6 no_context (order words.Def) (with_stack j.now full) ≡ Ok next =
      def-row j.now st e (pos k) in
      let got = dictionaries.get-insert int_cmp_total j.now.article.dictionary (pos k) e in
      record {
        now = moved next;
        runs = runs-on u full xs j (Order words.Def) next refl row_is;
        marks_are = marks-on u full xs j (Order words.Def) next refl row_is [] refl ∙ append-nil t.made;
        versioned = refl;
        stack_is = refl;
        exports = j.exports;
        dictionary = λ q p h. elim (get-push t.stored o q p h) [
          | inl a ↦ (let old = j.dictionary q p a.0 in elim (bool_cases (eq_by_cmp int_cmp (pos q) (pos k))) [
            | inl b ↦ absurd (let f : pos q ≡ pos k = tells_apart exact_signed (pos q) (pos k) b in
                let g : q ≡ k = cc in let h : q < k = a.1 in omega arith)
            | inr b ↦ record {
              object = old.object;
              value_is = old.value_is;
              there = got (pos q)
                  ∙ ap (λ z. cond z (Some e) (dictionaries.get j.now.article.dictionary (pos q))) b ∙ old.there;
            }
          ])
          | inr a ↦ (let yes : eq_by_cmp int_cmp (pos q) (pos k) ≡ true = ap (λ z. eq_by_cmp int_cmp (pos z) (pos k))
              a.0 ∙ (eq_by_cmp_equiv int_cmp_total).refl (pos k) in
              record {
                object = v;
                value_is = ap value (sym a.1) ∙ value_is;
                there = got (pos q)
                    ∙ ap (λ z. cond z (Some e) (dictionaries.get j.now.article.dictionary (pos q))) yes
                    ∙ ap (λ z. Some (entry v z)) a.1;
              })
        ];
        assumptions = j.assumptions;
        definitions = j.definitions;
      }

  pub recall-written : (t : Text Name) (st : List Entry) (xs : List Export) (o : Origin Name) (v : Object) (k : ℕ)
      → value o ≡ Ok v → slice_get t.stored k ≡ Some o → IsWritten t st xs
      → IsWritten (w.put same (Order words.Ref) (w.put same (Numeral (pos k)) t)) (st ++ entry v o ∷ []) xs
  recall-written t st xs o v k value_is stored i =
      let e : Entry = entry v o in
      let u : Text Name = w.put same (Numeral (pos k)) t in
      let j = number-written t st xs (pos k) i in
      let full : List Entry = st ++ entry (number (pos k)) (Number (pos k)) ∷ [] in
      let held = j.dictionary k o stored in
      let one : held.object ≡ v = let a : Ok held.object ≡ Ok v = sym held.value_is ∙ value_is in cc in
      let there : dictionaries.get j.now.article.dictionary (pos k) ≡ Some e = held.there
      ∙ ap (λ z. Some (entry z o)) one in
      let next : State = with_stack j.now (st ++ e ∷ []) in
      let row_is : row version_6 no_context (order words.Ref) (with_stack j.now full) ≡ Ok next =
      ref-row j.now st e (pos k) there in
      record {
        now = moved next;
        runs = runs-on u full xs j (Order words.Ref) next refl row_is;
        marks_are = marks-on u full xs j (Order words.Ref) next refl row_is [] refl ∙ append-nil t.made;
        versioned = refl;
        stack_is = refl;
        exports = j.exports;
        dictionary = j.dictionary;
        assumptions = j.assumptions;
        definitions = j.definitions;
      }

  pub pop-written : (t : Text Name) (st : List Entry) (xs : List Export) (e : Entry) → IsWritten t (st ++ e ∷ []) xs
      → IsWritten (w.put same (Order words.Pop) t) st xs
  pop-written t st xs e i =
      let full : List Entry = st ++ e ∷ [] in
      let next : State = with_stack i.now st in
      let row_is : row version_6 no_context (order words.Pop) (with_stack i.now full) ≡ Ok next =
      pop-row i.now st e in
      record {
        now = moved next;
        runs = runs-on t full xs i (Order words.Pop) next refl row_is;
        marks_are = marks-on t full xs i (Order words.Pop) next refl row_is [] refl ∙ append-nil t.made;
        versioned = refl;
        stack_is = refl;
        exports = i.exports;
        dictionary = i.dictionary;
        assumptions = i.assumptions;
        definitions = i.definitions;
      }
