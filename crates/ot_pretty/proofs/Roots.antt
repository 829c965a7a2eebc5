-- What the terms of theorems and definitions add to the symbols.
use Rattle.std.specs.Prelude.{◌≡◌, ℕ, suc, ◌+◌, ◌<◌, List, [], ◌∷◌, ◌++◌, map, length, take, get_or}
use Rattle.std.specs.Global.{Vec}
use Rattle.std.specs.List.{All, flat_map}
use Rattle.std.proofs.Common.{refl, sym, ap, ◌∙◌, subst, arith, append_assoc, append-nil}
use Rattle.std.proofs.Math.Seq.{take-suc}
use Rattle.std.proofs.lemmas.List.{map-append}
use Rattle.std.proofs.lemmas.List.Elements.{All-head, All-tail, All-nil, All-cons}
use Rattle.ot_logic.specs.Lists.{IsPart, IsSameSet}
use Rattle.ot_logic.specs.Names.{Name}
use Rattle.ot_logic.specs.Naming.{names}
use Rattle.ot_logic.specs.Trees.{Tm, Free, Con, Bound, App, Abs, Sequent, Definition, Symbol}
use Rattle.ot_logic.specs.Hol.{symbols_tm, symbols_all, symbols_of, symbols_in, used}
use Rattle.ot_laws.proofs.Sets.{part-append, same_set-self, same_set-then, same_set-append}
use Rattle.ot_term.specs.declared.term.VarKey.{VarKey}
use Rattle.ot_kernel.specs.State.{State, term_at, terms_at, theorem_at}
use Rattle.ot_kernel.specs.Definitions.{definition_at, right_side, IsHeld}
use Rattle.ot_kernel.specs.declared.definition.Definition as code
use Rattle.ot_kernel.specs.declared.definition.Definition.TheVariants as definitions
use Rattle.ot_term.specs.declared.term.Symbol as code_symbols
use Rattle.ot_parse.specs.declared.notation.WordKind.{WordKind}
use Rattle.ot_parse.specs.Symbols.{symbol_of}
use Rattle.ot_pretty.specs.Run.{HasMoreTerms, symbols_of_run, named_symbol}
use Rattle.ot_logic.proofs.Members.{IsMember-left, IsMember-right}

same-lists : {X : Type 0} (xs ys : List X) → xs ≡ ys → IsSameSet xs ys
same-lists xs ys e = subst (IsSameSet xs) e (same_set-self xs)

-- one item more of a list
pub take-item : {X : Type 0} (xs : List X) (i : ℕ) (x : X) → i < length xs → x ≡ get_or xs i x
    → take (i + 1) xs ≡ take i xs ++ x ∷ []
take-item xs i x h e =
    let n : i + 1 ≡ suc i = omega arith in
    ap (λ k. take k xs) n ∙ take-suc xs i x h ∙ ap (λ y. take i xs ++ y ∷ []) (sym e)

-- ---- lists of symbols
symbols_all-append : (g h : List (Tm Name)) → symbols_all names (g ++ h) ≡ symbols_all names g ++ symbols_all names h
symbols_all-append [] h = refl
symbols_all-append (t ∷ g) h = ap (λ l. symbols_tm names t ++ l) (symbols_all-append g h)
    ∙ sym (append_assoc (symbols_tm names t) (symbols_all names g) (symbols_all names h))

symbols_in-push : (qs : List (Sequent Name)) (q : Sequent Name) → symbols_in names (qs ++ q ∷ [])
    ≡ symbols_in names qs ++ symbols_of names q
symbols_in-push [] q = append-nil (symbols_of names q)
symbols_in-push (p ∷ qs) q = ap (λ l. symbols_of names p ++ l) (symbols_in-push qs q)
    ∙ sym (append_assoc (symbols_of names p) (symbols_in names qs) (symbols_of names q))

used-push : (ds : List (Definition Name)) (d : Definition Name) → flat_map (used names) (ds ++ d ∷ [])
    ≡ flat_map (used names) ds ++ used names d
used-push [] d = append-nil (used names d)
used-push (e ∷ ds) d = ap (λ l. used names e ++ l) (used-push ds d)
    ∙ sym (append_assoc (used names e) (flat_map (used names) ds) (used names d))

module _ (s : State) where
  abbrev IsIn : ℕ → Type 0
  IsIn i = i < length s.terms

  all-append : (xs ys : List ℕ) → All IsIn xs → All IsIn ys → All IsIn (xs ++ ys)
  all-append [] ys h g = g
  all-append (x ∷ xs) ys h g =
      All-cons IsIn x (xs ++ ys) (All-head IsIn x xs h) (all-append xs ys (All-tail IsIn x xs h) g)

  -- ---- nothing, a theorem, one after another
  pub adds-nothing : (ids : List ℕ) → HasMoreTerms s ids ids []
  adds-nothing ids =
      record { inside = λ h. h; symbols = same-lists _ _ (sym (append-nil (symbols_all names (terms_at s ids)))) }

  pub adds-same : {old new : List ℕ} {x y : List (Symbol Name)} → IsSameSet x y → HasMoreTerms s old new x
      → HasMoreTerms s old new y
  adds-same {old} {new} {x} {y} p a =
      record {
        inside = a.inside;
        symbols = same_set-then a.symbols (same_set-append (same_set-self (symbols_all names (terms_at s old))) p);
      }

  pub adds-then : {a b c : List ℕ} {x y : List (Symbol Name)} → HasMoreTerms s a b x → HasMoreTerms s b c y
      → HasMoreTerms s a c (x ++ y)
  adds-then {a} {b} {c} {x} {y} p q = record {
    inside = λ h. q.inside (p.inside h);
    symbols =
        subst (IsSameSet (symbols_all names (terms_at s c))) (append_assoc (symbols_all names (terms_at s a)) x y)
        (same_set-then q.symbols (same_set-append p.symbols (same_set-self y)));
  }

  pub adds-theorem : (old new hs : List ℕ) (c : ℕ) (q : Sequent Name) → new ≡ (old ++ hs) ++ c ∷ [] → terms_at s hs
      ≡ q.hyps → term_at s c ≡ q.concl → All IsIn hs → c < length s.terms → HasMoreTerms s old new (symbols_of names q)
  adds-theorem old new hs c q e h g inside within = record {
    inside = λ a. subst (All IsIn) (sym e)
        (all-append (old ++ hs) (c ∷ []) (all-append old hs a inside) (All-cons IsIn c [] within (All-nil IsIn)));
    symbols = same-lists _ _ (
        ap (λ l. symbols_all names (terms_at s l)) (e ∙ append_assoc old hs (c ∷ []))
        ∙ ap (symbols_all names) (map-append (term_at s) old (hs ++ c ∷ []))
        ∙ symbols_all-append (terms_at s old) (terms_at s (hs ++ c ∷ []))
        ∙ ap (λ l. symbols_all names (terms_at s old) ++ l)
        (ap (symbols_all names) (map-append (term_at s) hs (c ∷ [])) ∙ symbols_all-append (terms_at s hs)
        (term_at s c ∷ []) ∙ (λ j. symbols_all names (h j) ++ append-nil (symbols_tm names (g j)) j))
        );
  }

  -- ---- a loop over theorems, and over definitions
  pub theorems-more : (first old new : List ℕ) (ths : List ℕ) (i th : ℕ) → i < length ths → th ≡ get_or ths i th
      → HasMoreTerms s first old (symbols_in names (map (theorem_at s) (take i ths)))
      → HasMoreTerms s old new (symbols_of names (theorem_at s th))
      → HasMoreTerms s first new (symbols_in names (map (theorem_at s) (take (i + 1) ths)))
  theorems-more first old new ths i th h at before more =
      let e = ap (λ l. symbols_in names (map (theorem_at s) l)) (take-item ths i th h at)
      ∙ ap (symbols_in names) (map-append (theorem_at s) (take i ths) (th ∷ []))
      ∙ symbols_in-push (map (theorem_at s) (take i ths)) (theorem_at s th) in
      subst (HasMoreTerms s first new) (sym e) (adds-then before more)

  pub definitions-more : (first old new : List ℕ) (ds : List code.Definition) (i : ℕ) (d : code.Definition)
      → take (i + 1) ds ≡ take i ds ++ d ∷ [] → HasMoreTerms s first old
      (flat_map (used names) (map (definition_at s) (take i ds))) → HasMoreTerms s old new (used names (definition_at s d))
      → HasMoreTerms s first new (flat_map (used names) (map (definition_at s) (take (i + 1) ds)))
  definitions-more first old new ds i d at before more =
      let e = ap (λ l. flat_map (used names) (map (definition_at s) l)) at
      ∙ ap (flat_map (used names)) (map-append (definition_at s) (take i ds) (d ∷ []))
      ∙ used-push (map (definition_at s) (take i ds)) (definition_at s d) in
      subst (HasMoreTerms s first new) (sym e) (adds-then before more)

  -- ---- what a definition uses
  right-part : (t : Tm Name) → IsPart (symbols_tm names (right_side t)) (symbols_tm names t)
  right-part (Free v) x m = m
  right-part (Con n t) x m = m
  right-part (Bound k) x m = m
  right-part (App g y) x m = IsMember-right x (symbols_tm names g) (symbols_tm names y) m
  right-part (Abs t b) x m = m

  -- a constant's term stands in its theorem
  constant-uses : (q : Sequent Name)
      → IsSameSet (symbols_of names q) (symbols_tm names (right_side q.concl) ++ (symbols_of names q ++ []))
  constant-uses q = record {
    to = λ x m. IsMember-right x (symbols_tm names (right_side q.concl)) (symbols_of names q ++ [])
        (IsMember-left x (symbols_of names q) [] m);
    back = part-append (symbols_tm names (right_side q.concl)) (symbols_of names q ++ []) (symbols_of names q)
        (λ x m. IsMember-right x (symbols_all names q.hyps) (symbols_tm names q.concl) (right-part q.concl x m))
        (part-append (symbols_of names q) [] (symbols_of names q) (λ x m. m) (λ x m. absurd m));
  }

  pub constant-adds : (old new : List ℕ) (d : code.Definition) (n th : ℕ) → d ≡ definitions.Con n th → IsHeld s d
      → HasMoreTerms s old new (symbols_of names (theorem_at s th)) → HasMoreTerms s old new (used names (definition_at s d))
  constant-adds old new d n th e held a =
      let same : IsHeld s (definitions.Con n th) = subst (IsHeld s) e held in
      subst (λ z. HasMoreTerms s old new (used names (definition_at s z))) (sym e)
      (subst (λ qs. HasMoreTerms s old new (symbols_tm names (right_side (theorem_at s th).concl) ++ symbols_in names qs))
      same.theorems (adds-same (constant-uses (theorem_at s th)) a))

  pub list-adds : (old new : List ℕ) (d : code.Definition) (ns : Vec ℕ) (vs : Vec VarKey) (premise th : ℕ)
      → d ≡ definitions.List ns vs premise th → IsHeld s d → HasMoreTerms s old new
      (symbols_in names (map (theorem_at s) (premise ∷ th ∷ []))) → HasMoreTerms s old new (used names (definition_at s d))
  list-adds old new d ns vs premise th e held a =
      let same : IsHeld s (definitions.List ns vs premise th) = subst (IsHeld s) e held in
      subst (λ z. HasMoreTerms s old new (used names (definition_at s z))) (sym e)
      (subst (λ qs. HasMoreTerms s old new (symbols_of names (theorem_at s premise) ++ symbols_in names qs)) same.theorems a)

  pub operator-adds : (old new : List ℕ) (d : code.Definition) (n abs rep : ℕ) (vs : Vec ℕ)
      (premise abs_th rep_th : ℕ) → d ≡ definitions.TyOp n abs rep vs premise abs_th rep_th → IsHeld s d
      → HasMoreTerms s old new (symbols_in names (map (theorem_at s) (premise ∷ abs_th ∷ rep_th ∷ [])))
      → HasMoreTerms s old new (used names (definition_at s d))
  operator-adds old new d n abs rep vs premise abs_th rep_th e held a =
      let same : IsHeld s (definitions.TyOp n abs rep vs premise abs_th rep_th) = subst (IsHeld s) e held in
      subst (λ z. HasMoreTerms s old new (used names (definition_at s z))) (sym e)
      (subst (λ qs. HasMoreTerms s old new (symbols_of names (theorem_at s premise) ++ symbols_in names qs)) same.theorems a)

-- ---- the terms of a run
pub run-adds : (s : State) (z a b c d ths : List ℕ) (es : List (Sequent Name)) → z ≡ [] → d ≡ c
    → map (theorem_at s) ths ≡ s.assumptions → HasMoreTerms s z a (symbols_in names (map (theorem_at s) ths))
    → HasMoreTerms s a b (symbols_in names es) → HasMoreTerms s b c (flat_map (used names) s.definitions)
    → HasMoreTerms s [] d (symbols_of_run s.assumptions es s.definitions)
run-adds s z a b c d ths es none same e p q r =
    let all =
    subst (λ qs. HasMoreTerms s z c (symbols_in names qs ++ symbols_in names es ++ flat_map (used names) s.definitions)) e
    (adds-then s (adds-then s p q) r) in
    subst (λ (w : List ℕ × List ℕ). HasMoreTerms s w.0 w.1 (symbols_of_run s.assumptions es s.definitions))
    (λ j. (none j, sym same j)) all

pub run-inside : (s : State) (c : List ℕ) (x : List (Symbol Name)) → HasMoreTerms s [] c x → All (λ i. i < length s.terms) c
run-inside s c x a = a.inside (All-nil (λ i. i < length s.terms))

pub run-symbols : (s : State) (c : List ℕ) (x ys : List (Symbol Name)) → HasMoreTerms s [] c x
    → IsSameSet ys (symbols_all names (terms_at s c)) → IsSameSet ys x
run-symbols s c x ys a h = same_set-then h a.symbols

-- ---- a symbol more with its name
pub named-more : (s : State) (xs : List code_symbols.Symbol) (i : ℕ) (x : code_symbols.Symbol)
    (old new : List (WordKind × Name)) (y : WordKind × Name) → i < length xs → x ≡ get_or xs i x
    → map symbol_of old ≡ map (named_symbol s) (take i xs)
    → symbol_of y ≡ named_symbol s x → new ≡ old ++ y ∷ []
    → map symbol_of new ≡ map (named_symbol s) (take (i + 1) xs)
named-more s xs i x old new y h at before e p =
    ap (map symbol_of) p ∙ map-append symbol_of old (y ∷ []) ∙ (λ j. before j ++ e j ∷ [])
    ∙ sym (map-append (named_symbol s) (take i xs) (x ∷ []))
    ∙ ap (map (named_symbol s)) (sym (take-item xs i x h at))
