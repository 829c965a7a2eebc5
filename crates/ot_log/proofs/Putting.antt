-- What the records of a word, of operands by their steps, are.
use Rattle.std.proofs.Common.{◌≡◌, ◌≢◌, ℕ, List, [], ◌∷◌, ◌++◌, slice_get, Some}
use Rattle.std.proofs.Common.{Result, Ok, Err, IfOk, refl, sym, ap, subst, ◌∙◌}
use Rattle.ot_logic.specs.Names.{Name}
use Rattle.ot_logic.specs.Table.{Extends}
use Rattle.ot_logic.specs.Trees.{Tm, Variable, Sequent}
use Rattle.ot_logic.specs.Answers.{◌>>=◌}
use Rattle.ot_logic.proofs.TableLemmas.{Extends-trans}
use Rattle.ot_logic.specs.declared.command.Cmd.{Cmd}
use Rattle.ot_logic.specs.declared.command.Cmd.TheVariants as words
use Rattle.ot_log_nodes.specs.Items.{Item, name_at, term_at}
use Rattle.ot_log_nodes.specs.Changing.{variable_at, type_map, term_map}
use Rattle.ot_log_nodes.specs.Typing.{AreTypings}
use Rattle.ot_log_nodes.specs.declared.node.VariableNode.{VariableNode}
use Rattle.ot_log_nodes.specs.declared.table.typing.Typings.{Typings}
use Rattle.ot_log_rules.specs.Statements.{terms_at}
use Rattle.ot_log_rules.specs.declared.statement.Statement.{Statement}
use Rattle.ot_trace.specs.Origins.{Make, NoOrigins, MoreOrigins}
use Rattle.ot_machine.specs.Objects.{Object, Objects, list, name, variable, term, theorem}
use Rattle.ot_machine.specs.DefinitionLists.{pairs_of}
use Rattle.ot_machine.specs.Places.{as_each, as_list, as_name, as_term}
use Rattle.ot_machine.specs.Substitutions.{maps_of}
use Rattle.ot_machine.specs.Makers.{maker}
use Rattle.ot_machine.specs.Values.{value, values, applied}
use Rattle.ot_machine.specs.Meaning.{origin_of}
use Rattle.ot_machine.specs.declared.session.Session.{Session}
use Rattle.ot_machine.proofs.ObjectKinds.{list-is}
use Rattle.ot_log_law.specs.Writing.{listed}
use Rattle.ot_log_page.specs.declared.sheet.Sheet.{Sheet}
use Rattle.ot_log_values.specs.Steps.{Makes, IsNameOf, IsVariableOf, IsTermOf, origins_of}
use Rattle.ot_log_values.specs.Lists.{AreNamesOf, AreTermsOf, ArePairsOf, AreMapsOf}
use Rattle.ot_log_rules.specs.Definitions.{names_at, pairs_at}
use Rattle.ot_log_page.proofs.Adding.{shows-grown}
use Rattle.ot_log_values.specs.Known.{AreKnown}
use Rattle.ot_log_values.specs.declared.values.Values.{Values}
use Rattle.ot_log_values.proofs.Later.{known-later}
use Rattle.ot_log_words.specs.Recording.{HasResult, Records, Defined}
use Rattle.ot_log_words.specs.declared.words.Made.{Made}
use Rattle.ot_log_words.proofs.Recorded.{records-later}
use Rattle.ot_log.specs.Keeping.{IsWriter, Puts, PutsDefinition, number_at, numbers_at}
use Rattle.ot_log.specs.declared.writer.Place.{Place}
use Rattle.ot_log.specs.declared.writer.Writer.{Writer}
use Rattle.ot_log.proofs.Valued.{has-values, has-applied, has-first, has-rest}
use Rattle.ot_log.proofs.Valued.{none-are, more-are, its-value, reads-list}
use Rattle.ot_log.proofs.Placed.{writer-grown, number-some, number-none}
use Rattle.ot_logic.proofs.Results.{bind-ok}

no-theorem : (t : Tm Name) (q : Sequent Name) → term t ≢ theorem q
no-theorem t q e = cc

no-name : (n : Name) (q : Sequent Name) → name n ≢ theorem q
no-name n q e = cc

no-list : (os : Objects) (q : Sequent Name) → list os ≢ theorem q
no-list os q e = cc

no-variable : (v : Variable Name) (q : Sequent Name) → variable v ≢ theorem q
no-variable v q e = cc

-- what holds of a value for each list
pub if-each : {X E A : Type 0} (B : A → Type 0) (P : A → X → Type 0) (Q : X → Type 0) (r : Result X E)
    → ((x : X) → ((a : A) → B a → P a x) → Q x) → ((a : A) → B a → IfOk r (P a)) → IfOk r Q
if-each B P Q (Ok x) f h = f x h
if-each B P Q (Err e) f h = tt

-- what a word makes of its operands, where its origin has a value
pub one-applied : (s : Session) (c : Cmd) (a : ℕ) (x : Object) → HasResult (value (Make c (origins_of s (a ∷ []))))
    → Makes (origin_of s a) x → HasResult (applied (maker c) (x ∷ []))
one-applied s c a x h is =
    let os = origins_of s (a ∷ []) in
    has-applied c os (x ∷ []) (more-are (origin_of s a) NoOrigins x [] is none-are (has-values c os h)) h

pub two-applied : (s : Session) (c : Cmd) (a d : ℕ) (x y : Object)
    → HasResult (value (Make c (origins_of s (a ∷ d ∷ []))))
    → Makes (origin_of s a) x → Makes (origin_of s d) y → HasResult (applied (maker c) (x ∷ y ∷ []))
two-applied s c a d x y h is these =
    let os = origins_of s (a ∷ d ∷ []) in
    let up = origin_of s d in
    has-applied c os (x ∷ y ∷ [])
    (more-are (origin_of s a) (MoreOrigins up NoOrigins) x (y ∷ []) is (more-are up NoOrigins y [] these none-are)
    (has-values c os h)) h

-- the list of the maps of a substitution, where its origin has a value
pub reads-maps : (s : Session) (ts : List Item) (a d : ℕ) (types : List (ℕ × ℕ)) (terms : List (VariableNode × ℕ))
    (q : Sequent Name)
    → HasResult (value (Make words.Subst (origins_of s (a ∷ d ∷ [])))) → AreMapsOf s ts a types terms
    → Makes (origin_of s d) (theorem q)
    → (os : Objects) × Makes (origin_of s a) (list os) × (maps_of os ≡ Ok (type_map ts types, term_map ts terms))
reads-maps s ts a d types terms q h are these =
    let one = origin_of s a in
    let v = has-first one (MoreOrigins (origin_of s d) NoOrigins)
    (has-values words.Subst (origins_of s (a ∷ d ∷ [])) h) in
    let z = two-applied s words.Subst a d v.0 (theorem q) h (its-value one v.0 v.1) these in
    let l = bind-ok (as_list v.0) _ z.0 z.1 in
    let x = bind-ok (maps_of l.0) _ z.0 l.2 in
    let is = are.read v.0 x.0 v.1 (ap (λ r. r >>= maps_of) l.1 ∙ x.1) in
    (l.0, record { is = λ y e. (its-value one v.0 v.1).is y e ∙ list-is v.0 l.0 l.1 }, x.1 ∙ ap Ok is)

-- the values of the operands of a definition, where there are all
pub constant-values : (s : Session) (ts : List Item) (a d n t : ℕ) → HasResult (values (origins_of s (a ∷ d ∷ [])))
    → IsNameOf s ts a n → IsTermOf s ts d t → values (origins_of s (a ∷ d ∷ []))
    ≡ Ok (name (name_at ts n) ∷ term (term_at ts t) ∷ [])
constant-values s ts a d n t hs is these =
    let o = origin_of s a in
    let up = origin_of s d in
    let x = name (name_at ts n) in
    let y = term (term_at ts t) in
    more-are o (MoreOrigins up NoOrigins) x (y ∷ []) (its-value o x is.is)
    (more-are up NoOrigins y [] these.made none-are) hs

pub type_operator-values : (s : Session) (ts : List Item) (a d f g k n abs rep : ℕ) (os : Objects) (q : Sequent Name)
    → HasResult (values (origins_of s (a ∷ d ∷ f ∷ g ∷ k ∷ [])))
    → IsNameOf s ts a n → IsNameOf s ts d abs → IsNameOf s ts f rep → Makes (origin_of s g) (list os)
    → Makes (origin_of s k) (theorem q)
    → values (origins_of s (a ∷ d ∷ f ∷ g ∷ k ∷ []))
    ≡ Ok (name (name_at ts n) ∷ name (name_at ts abs) ∷ name (name_at ts rep) ∷ list os ∷ theorem q ∷ [])
type_operator-values s ts a d f g k n abs rep os q hs nh ah rh l is =
    let oa = origin_of s a in
    let od = origin_of s d in
    let of = origin_of s f in
    let og = origin_of s g in
    let ok = origin_of s k in
    let r4 = MoreOrigins ok NoOrigins in
    let r3 = MoreOrigins og r4 in
    let r2 = MoreOrigins of r3 in
    let x = name (name_at ts n) in
    let y = name (name_at ts abs) in
    let z = name (name_at ts rep) in
    let o = list os in
    let t = theorem q in
    more-are oa (MoreOrigins od r2) x (y ∷ z ∷ o ∷ t ∷ []) (its-value oa x nh.is)
    (more-are od r2 y (z ∷ o ∷ t ∷ []) (its-value od y ah.is)
    (more-are of r3 z (o ∷ t ∷ []) (its-value of z rh.is)
    (more-are og r4 o (t ∷ []) l (more-are ok NoOrigins t [] is none-are)))) hs

-- the table of nodes may have grown before
module _ (s : Session) (old : Writer) (w : IsWriter s old) (ts us : List Item) (k : Values) (y : Typings) (b : Sheet)
    (e : Extends old.nodes ts) (f : Extends ts us) (known : AreKnown s ts k)
    (typed : AreTypings us y.known.entries) where
  abbrev new : Writer
  new = record old { sheet = b; nodes = us; typings = y; values = k }

  new-writer : IsWriter s new
  new-writer = writer-grown s old new w (Extends-trans e f) (known-later s ts us f k known) typed refl refl

  puts : (c : Cmd) (ids : List ℕ) (vs : List Object) (is : List ℕ) (m : Made) → values (origins_of s ids) ≡ Ok vs
      → numbers_at old.places.items ids ≡ is → Records ts us old.sheet b c vs is m → Puts s old new c ids m
  puts c ids vs is m v n r = record {
    writer = new-writer;
    places = refl;
    objects = vs;
    values_are = v;
    records = subst (λ l. Records old.nodes us old.sheet b c vs l m) (sym n)
        (records-later old.nodes ts us old.sheet b e c vs is m r);
  }

  none-at : (i : ℕ) (x : Object) → Makes (origin_of s i) x → HasResult (value (origin_of s i))
      → ((q : Sequent Name) → x ≢ theorem q) → listed (number_at old.places.items i) ≡ []
  none-at i x m h other = ap listed (number-none s old w i x m h other)

  some-at : (i : ℕ) (p : Place) → slice_get old.places.items i ≡ Some (Some p)
      → listed (number_at old.places.items i) ≡ p.number ∷ []
  some-at i p h = ap listed (number-some old.places.items i p h)

  pub term-puts : (c : Cmd) (a t : ℕ) (m : Made) → HasResult (value (Make c (origins_of s (a ∷ []))))
      → IsTermOf s ts a t
      → Records ts us old.sheet b c (term (term_at ts t) ∷ []) [] m → Puts s old new c (a ∷ []) m
  term-puts c a t m h is r =
      let hs = has-values c (origins_of s (a ∷ [])) h in
      puts c (a ∷ []) (term (term_at ts t) ∷ []) [] m
      (more-are (origin_of s a) NoOrigins (term (term_at ts t)) [] is.made none-are hs)
      (ap (λ l. l ++ []) (none-at a (term (term_at ts t)) is.made (has-first (origin_of s a) NoOrigins hs)
      (no-theorem (term_at ts t)))) r

  pub one-puts : (c : Cmd) (a : ℕ) (p : Place) (q : Sequent Name) (m : Made)
      → HasResult (value (Make c (origins_of s (a ∷ []))))
      → slice_get old.places.items a ≡ Some (Some p) → Makes (origin_of s a) (theorem q)
      → Records ts us old.sheet b c (theorem q ∷ []) (p.number ∷ []) m → Puts s old new c (a ∷ []) m
  one-puts c a p q m h at is r =
      puts c (a ∷ []) (theorem q ∷ []) (p.number ∷ []) m
      (more-are (origin_of s a) NoOrigins (theorem q) [] is none-are (has-values c (origins_of s (a ∷ [])) h))
      (ap (λ l. l ++ []) (some-at a p at)) r

  pub two-puts : (c : Cmd) (a d : ℕ) (p o : Place) (q r : Sequent Name) (m : Made)
      → HasResult (value (Make c (origins_of s (a ∷ d ∷ [])))) → slice_get old.places.items a ≡ Some (Some p)
      → slice_get old.places.items d ≡ Some (Some o)
      → Makes (origin_of s a) (theorem q) → Makes (origin_of s d) (theorem r)
      → Records ts us old.sheet b c (theorem q ∷ theorem r ∷ []) (p.number ∷ o.number ∷ []) m
      → Puts s old new c (a ∷ d ∷ []) m
  two-puts c a d p o q r m h at up is these x =
      puts c (a ∷ d ∷ []) (theorem q ∷ theorem r ∷ []) (p.number ∷ o.number ∷ []) m
      (more-are (origin_of s a) (MoreOrigins (origin_of s d) NoOrigins) (theorem q) (theorem r ∷ []) is
      (more-are (origin_of s d) NoOrigins (theorem r) [] these none-are) (has-values c (origins_of s (a ∷ d ∷ [])) h))
      (λ i. some-at a p at i ++ (some-at d o up i ++ [])) x

  -- the first operand is no theorem, and the second one is
  lower-puts : (c : Cmd) (a d : ℕ) (x : Object) (o : Place) (r : Sequent Name) (m : Made)
      → HasResult (value (Make c (origins_of s (a ∷ d ∷ [])))) → Makes (origin_of s a) x
      → ((q : Sequent Name) → x ≢ theorem q)
      → slice_get old.places.items d ≡ Some (Some o)
      → Makes (origin_of s d) (theorem r) → Records ts us old.sheet b c (x ∷ theorem r ∷ []) (o.number ∷ []) m
      → Puts s old new c (a ∷ d ∷ []) m
  lower-puts c a d x o r m h is other up these y =
      let hs = has-values c (origins_of s (a ∷ d ∷ [])) h in
      puts c (a ∷ d ∷ []) (x ∷ theorem r ∷ []) (o.number ∷ []) m
      (more-are (origin_of s a) (MoreOrigins (origin_of s d) NoOrigins) x (theorem r ∷ []) is
      (more-are (origin_of s d) NoOrigins (theorem r) [] these none-are) hs)
      (λ i. none-at a x is (has-first (origin_of s a) (MoreOrigins (origin_of s d) NoOrigins) hs) other i
      ++ (some-at d o up i ++ [])) y

  pub abs_thm-puts : (a d : ℕ) (v : VariableNode) (o : Place) (r : Sequent Name) (m : Made)
      → HasResult (value (Make words.AbsThm (origins_of s (a ∷ d ∷ [])))) → IsVariableOf s ts a v
      → slice_get old.places.items d ≡ Some (Some o)
      → Makes (origin_of s d) (theorem r)
      → Records ts us old.sheet b words.AbsThm (variable (variable_at ts v) ∷ theorem r ∷ [])
      (o.number ∷ []) m → Puts s old new words.AbsThm (a ∷ d ∷ []) m
  abs_thm-puts a d v o r m h is = lower-puts words.AbsThm a d (variable (variable_at ts v)) o r m h is.made
      (no-variable (variable_at ts v))

  pub axiom-puts : (a d : ℕ) (hyps : List ℕ) (t : ℕ) (m : Made)
      → HasResult (value (Make words.Axiom (origins_of s (a ∷ d ∷ []))))
      → AreTermsOf s ts a hyps → IsTermOf s ts d t
      → ((os : Objects) → as_each as_term os ≡ Ok (terms_at ts hyps)
      → Records ts us old.sheet b words.Axiom (list os ∷ term (term_at ts t) ∷ []) [] m)
      → Puts s old new words.Axiom (a ∷ d ∷ []) m
  axiom-puts a d hyps t m h are is r =
      let o = origin_of s a in
      let up = origin_of s d in
      let hs = has-values words.Axiom (origins_of s (a ∷ d ∷ [])) h in
      let l = reads-list (as_each as_term) o (terms_at ts hyps) are.read
      (has-first o (MoreOrigins up NoOrigins) hs) in
      let x = term (term_at ts t) in
      puts words.Axiom (a ∷ d ∷ []) (list l.0 ∷ x ∷ []) [] m
      (more-are o (MoreOrigins up NoOrigins) (list l.0) (x ∷ []) l.1 (more-are up NoOrigins x [] is.made none-are) hs)
      (λ i. none-at a (list l.0) l.1 (has-first o (MoreOrigins up NoOrigins) hs) (no-list l.0) i
      ++ (none-at d x is.made (has-first up NoOrigins (has-rest o (MoreOrigins up NoOrigins) hs))
      (no-theorem (term_at ts t)) i
      ++ []))
      (r l.0 l.2)

  pub subst-puts : (a d : ℕ) (types : List (ℕ × ℕ)) (terms : List (VariableNode × ℕ)) (o : Place) (q : Sequent Name)
      (m : Made)
      → HasResult (value (Make words.Subst (origins_of s (a ∷ d ∷ [])))) → AreMapsOf s ts a types terms
      → slice_get old.places.items d ≡ Some (Some o) → Makes (origin_of s d) (theorem q)
      → ((os : Objects) → maps_of os ≡ Ok (type_map ts types, term_map ts terms)
      → Records ts us old.sheet b words.Subst (list os ∷ theorem q ∷ []) (o.number ∷ []) m)
      → Puts s old new words.Subst (a ∷ d ∷ []) m
  subst-puts a d types terms o q m h are up these r =
      let l = reads-maps s ts a d types terms q h are these in
      lower-puts words.Subst a d (list l.0) o q m h l.1 (no-list l.0) up these (r l.0 l.2)

  -- ---- definitions
  defines : (c : Cmd) (ids : List ℕ) (vs : List Object) (is : List ℕ) (qs : List Statement)
      → values (origins_of s ids) ≡ Ok vs
      → numbers_at old.places.items ids ≡ is → Defined ts us old.sheet b c vs is qs
      → PutsDefinition s old new c ids qs
  defines c ids vs is qs v n d = record {
    writer = new-writer;
    places = refl;
    objects = vs;
    values_are = v;
    defined = subst (λ l. Defined old.nodes us old.sheet b c vs l qs) (sym n)
        (record {
          adds = λ max x h. d.adds max x (shows-grown old.nodes ts max old.sheet x e h);
          has = d.has;
          theorems_are = d.theorems_are;
        });
  }

  pub constant-puts : (a d n t : ℕ) (qs : List Statement) → HasResult (values (origins_of s (a ∷ d ∷ [])))
      → IsNameOf s ts a n
      → IsTermOf s ts d t
      → Defined ts us old.sheet b words.DefineConst (name (name_at ts n) ∷ term (term_at ts t) ∷ []) [] qs
      → PutsDefinition s old new words.DefineConst (a ∷ d ∷ []) qs
  constant-puts a d n t qs hs is these r =
      let o = origin_of s a in
      let up = origin_of s d in
      let x = name (name_at ts n) in
      let y = term (term_at ts t) in
      let m = its-value o x is.is in
      defines words.DefineConst (a ∷ d ∷ []) (x ∷ y ∷ []) [] qs (constant-values s ts a d n t hs is these)
      (λ i. none-at a x m (x, is.is) (no-name (name_at ts n)) i
      ++ (none-at d y these.made (has-first up NoOrigins (has-rest o (MoreOrigins up NoOrigins) hs))
      (no-theorem (term_at ts t)) i
      ++ [])) r

  pub constants-puts : (a d : ℕ) (ps : List (ℕ × VariableNode)) (p : Place) (q : Sequent Name) (qs : List Statement)
      → HasResult (values (origins_of s (a ∷ d ∷ []))) → ArePairsOf s ts a ps → slice_get old.places.items d
      ≡ Some (Some p)
      → Makes (origin_of s d) (theorem q)
      → ((os : Objects) → pairs_of os ≡ Ok (pairs_at ts ps)
      → Defined ts us old.sheet b words.DefineConstList (list os ∷ theorem q ∷ []) (p.number ∷ []) qs)
      → PutsDefinition s old new words.DefineConstList (a ∷ d ∷ []) qs
  constants-puts a d ps p q qs hs are at is r =
      let o = origin_of s a in
      let up = origin_of s d in
      let h = has-first o (MoreOrigins up NoOrigins) hs in
      let l = reads-list pairs_of o (pairs_at ts ps) are.read h in
      defines words.DefineConstList (a ∷ d ∷ []) (list l.0 ∷ theorem q ∷ []) (p.number ∷ []) qs
      (more-are o (MoreOrigins up NoOrigins) (list l.0) (theorem q ∷ []) l.1
      (more-are up NoOrigins (theorem q) [] is none-are) hs)
      (λ i. none-at a (list l.0) l.1 h (no-list l.0) i ++ (some-at d p at i ++ [])) (r l.0 l.2)

  pub type_operator-puts : (a d f g k : ℕ) (n abs rep : ℕ) (vars : List ℕ) (p : Place) (q : Sequent Name)
      (qs : List Statement)
      → HasResult (values (origins_of s (a ∷ d ∷ f ∷ g ∷ k ∷ [])))
      → IsNameOf s ts a n → IsNameOf s ts d abs → IsNameOf s ts f rep → AreNamesOf s ts g vars
      → slice_get old.places.items k ≡ Some (Some p) → Makes (origin_of s k) (theorem q)
      → ((os : Objects) → as_each as_name os ≡ Ok (names_at ts vars)
      → Defined ts us old.sheet b words.DefineTypeOp
      (name (name_at ts n) ∷ name (name_at ts abs) ∷ name (name_at ts rep) ∷ list os ∷ theorem q ∷ []) (p.number ∷ [])
      qs)
      → PutsDefinition s old new words.DefineTypeOp (a ∷ d ∷ f ∷ g ∷ k ∷ []) qs
  type_operator-puts a d f g k n abs rep vars p q qs hs nh ah rh are at is r =
      let oa = origin_of s a in
      let od = origin_of s d in
      let of = origin_of s f in
      let og = origin_of s g in
      let ok = origin_of s k in
      let r4 = MoreOrigins ok NoOrigins in
      let r3 = MoreOrigins og r4 in
      let r2 = MoreOrigins of r3 in
      let r1 = MoreOrigins od r2 in
      let x = name (name_at ts n) in
      let y = name (name_at ts abs) in
      let z = name (name_at ts rep) in
      let mx = its-value oa x nh.is in
      let my = its-value od y ah.is in
      let mz = its-value of z rh.is in
      let hg = has-first og r4 (has-rest of r3 (has-rest od r2 (has-rest oa r1 hs))) in
      let l = reads-list (as_each as_name) og (names_at ts vars) are.read hg in
      let o = list l.0 in
      defines words.DefineTypeOp (a ∷ d ∷ f ∷ g ∷ k ∷ []) (x ∷ y ∷ z ∷ o ∷ theorem q ∷ []) (p.number ∷ []) qs
      (type_operator-values s ts a d f g k n abs rep l.0 q hs nh ah rh l.1 is)
      (λ i. none-at a x mx (x, nh.is) (no-name (name_at ts n)) i
      ++ (none-at d y my (y, ah.is) (no-name (name_at ts abs)) i
      ++ (none-at f z mz (z, rh.is) (no-name (name_at ts rep)) i
      ++ (none-at g o l.1 hg (no-list l.0) i ++ (some-at k p at i ++ [])))))
      (r l.0 l.2)
