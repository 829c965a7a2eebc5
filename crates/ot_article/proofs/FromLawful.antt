-- The definitions and exports of a lawful run can be written.
use Rattle.std.proofs.Common.{◌≡◌, ℕ, zero, suc, ◌<◌, ◌≤◌, inl, inr, Bool, true, false, not}
use Rattle.std.proofs.Common.{cond, List, [], ◌∷◌, ◌++◌, length, take, slice_get, Option, None}
use Rattle.std.proofs.Common.{Some, Ok, Err, refl, sym, ap, subst, ◌∙◌, arith, append_assoc}
use Rattle.std.proofs.lemmas.List.{take_at, map_push}
use Rattle.std.proofs.lemmas.Bool.Decides.{nat_tests}
use Rattle.std.specs.Prelude.{◌&&◌, ◌||◌}
use Rattle.std.specs.Bool.{Decides}
use Rattle.std.specs.List.{All, flat_map}
use Rattle.ot_logic.specs.Names.{Name}
use Rattle.ot_logic.specs.Naming.{names}
use Rattle.ot_logic.specs.Hol.{theorems, same_sequent}
use Rattle.ot_logic.specs.Trees.{Sequent, Definition}
use Rattle.ot_logic.specs.Faults.{Fault, StackEmpty}
use Rattle.ot_logic.specs.Answers.{◌>>=◌, some_or}
use Rattle.ot_logic.specs.Lists.{IsMember, IsPart}
use Rattle.ot_logic.specs.declared.command.Cmd.{Cmd}
use Rattle.ot_trace.specs.Origins.{Origin, Origins, Number, Named, Make, Define}
use Rattle.ot_trace.specs.Origins.{Outcome, NoOrigins, MoreOrigins, listed, operands}
use Rattle.ot_machine.specs.Objects.{Object, theorem}
use Rattle.ot_machine.specs.States.{Export, Made, RunState}
use Rattle.ot_machine.specs.Rows.{definitions_of, is_exported}
use Rattle.ot_machine.specs.Makers.{maker}
use Rattle.ot_machine.specs.Marks.{fresh}
use Rattle.ot_machine.specs.Values.{applied, value, values, definition_of, defines, theorem_of}
use Rattle.ot_written.specs.Needed.{needed_definitions, needed_origins}
use Rattle.ot_trace.specs.Reach.{IsReached, Root, Operand, OfTheorem}
use Rattle.ot_machine.specs.Lawful.{Basis, RestsOn, AreOn, Fits, IsLawfulExport, basis_of}
use Rattle.ot_machine.specs.Lawful.{run_basis, AreApart, StatesSequent, IsLawfulRun}
use Rattle.ot_written.specs.Written.{theorem_count}
use Rattle.ot_written.specs.Uses.{use_count, has_use}
use Rattle.ot_written.proofs.Settled.{EachOutcome, EachOutcomes, IsTheoremOf}
use Rattle.ot_article.proofs.Writable.{IsWritableDefinition, AreWritable, AreExports}
use Rattle.ot_written.specs.Needed.{is_among}
use Rattle.ot_written.proofs.Kept.{kept, kept-is}
use Rattle.ot_article.proofs.KeptDefinitions.{made-origins}
use Rattle.ot_article.specs.Article.{origins_made, export_roots, needed_made}
use Rattle.ot_written.proofs.Filters.{bool_cases, flat_map-member}
use Rattle.ot_written.proofs.Counting.{count-member}
use Rattle.ot_written.proofs.NeededDefinitions.{needed-reached, reached-needed, reached-origin}
use Rattle.ot_article.proofs.Frames.{objects_of}
use Rattle.ot_article.proofs.Operands.{given-of}
use Rattle.ot_article.proofs.DefinitionRows as rows
use Rattle.ot_article.proofs.Emitted.{paired, paired-is}
use Rattle.ot_article.proofs.Fewer.{definition-less}
use Rattle.ot_written.proofs.NeededLaw.{among-to, among-from}
use Rattle.ot_article.proofs.Rests.{define-of}
use Rattle.ot_logic.proofs.Elements.{slice_get-low}
use Rattle.ot_logic.proofs.Members.{All-at_member, IsMember-cases, IsMember-left, IsMember-right, IsPart-map}
use Rattle.ot_logic.proofs.Results.{bind-ok}
use Rattle.ot_logic.proofs.TableLemmas.{slice_get-append_left}

abbrev made_origin : Made → Origin Name
made_origin m = m.origin

-- a definition has as many theorems as its word says
theorems-long : (w : Cmd) (os : Origins Name) (x : Definition Name) → definition_of [] (Define w os) ≡ Ok x
    → length (theorems names x) ≡ theorem_count w
theorems-long w os x h =
    let a = bind-ok (values os) (defines w []) x h in
    let p = paired-is os a.0 a.1 in
    (rows.defines w fresh [] (paired os a.0) x
    (given-of w [] (objects_of (paired os a.0)) x (ap (defines w []) p.1 ∙ a.2)) p.2).long

pub get-middle : {X : Type 0} (xs ys : List X) (y : X) → slice_get (xs ++ y ∷ ys) (length xs) ≡ Some y
get-middle [] ys y = refl
get-middle (x ∷ xs) ys y = get-middle xs ys y

some-is : {X : Type 0} (r : Option X) (x : X) → some_or {E = Fault Name} StackEmpty r ≡ Ok x → r ≡ Some x
some-is None x h = absurd (cc)
some-is (Some y) x h = let e : y ≡ x = cc in ap Some e

module _ (same : Origin Name → Origin Name → Bool) (same-is : (a b : Origin Name) → Decides (same a b) (a ≡ b))
    (roots ds : List (Origin Name)) where
  abbrev used : Origin Name → Bool
  used = has_use same roots ds

  abbrev needed : List (Origin Name)
  needed = needed_origins same roots ds

  abbrev found : List (Origin Name)
  found = needed_definitions same roots ds

  abbrev IsUsed : Origin Name → Type 0
  IsUsed o = 1 ≤ use_count same roots ds o

  root-used : (o : Origin Name) → IsMember o roots → IsUsed o
  root-used o m = let h = count-member same same-is o roots m in omega arith

  operand-used : (o p : Origin Name) → IsReached roots ds o → IsMember p (operands o) → IsUsed p
  operand-used o p a m = let h = count-member same same-is p (flat_map operands needed)
      (flat_map-member p o operands needed (reached-origin same same-is roots ds o a) m) in omega arith

  -- the definitions among E are all needed ones among D
  module _ (b : Basis) (D E : List (Origin Name)) (names_them : (d : Origin Name) → IsMember d b.definitions
      → IsMember d D) (known : (d : Origin Name) → IsMember d D → IsMember d ds)
      (cover : (d : Origin Name) → IsMember d D → is_among same d found ≡ true → IsMember d E) where
    theorem-settled : (j : ℕ) (d : Origin Name) (v : Object) → RestsOn b (Outcome (suc j) d)
        → value (Outcome (suc j) d) ≡ Ok v → IsReached roots ds (Outcome (suc j) d) → IsUsed (Outcome (suc j) d)
        → IsTheoremOf used E (Outcome (suc j) d)
    theorem-settled j d v rests h a uses_it =
        let x = bind-ok (definition_of [] d) (theorem_of (suc j)) v h in
        let f = define-of [] d x.0 x.1 in
        let y = bind-ok (some_or StackEmpty (slice_get (theorems names x.0) j)) (λ q. Ok (theorem q)) v x.2 in
        let short = slice_get-low (theorems names x.0) j y.0 (some-is (slice_get (theorems names x.0) j) y.0 y.1) in
        let long : length (theorems names x.0) ≡ theorem_count f.0 =
        theorems-long f.0 f.1 x.0 (ap (definition_of []) (sym f.2) ∙ x.1) in
        let there : IsMember d D = names_them d rests.0 in
        let need : is_among same d found ≡ true = among-from same same-is d found
        (reached-needed same same-is roots ds d (known d there) (OfTheorem (suc j) d a)) in
        record {
          place = j;
          word = f.0;
          operands = f.1;
          is = ap (Outcome (suc j)) f.2;
          of = subst (λ z. IsMember z E) f.2 (cover d there need);
          within = omega arith;
          has_use = grind (arith, nat_tests);
        }

    mutual
      pub one-settled : (o : Origin Name) (v : Object) → RestsOn b o → value o ≡ Ok v → IsReached roots ds o
          → IsUsed o → EachOutcome (IsTheoremOf used E) o
      one-settled (Number k) v rests h a uses_it = tt
      one-settled (Named n) v rests h a uses_it = tt
      one-settled (Make w os) v rests h a uses_it = let x = bind-ok (values os) (applied (maker w)) v h in
          all-settled os x.0 rests.0 x.1 (λ p m. (Operand (Make w os) p a m, operand-used (Make w os) p a m))
      one-settled (Define w os) v rests h a uses_it = absurd (cc)
      one-settled (Outcome zero d) v rests h a uses_it = let x = bind-ok (definition_of [] d) (theorem_of zero) v h in
          absurd (let f : Err StackEmpty ≡ Ok v = x.2 in cc)
      one-settled (Outcome (suc j) d) v rests h a uses_it = theorem-settled j d v rests h a uses_it

      pub all-settled : (os : Origins Name) (vs : List Object) → AreOn b os → values os ≡ Ok vs
          → ((p : Origin Name) → IsMember p (listed os) → IsReached roots ds p × IsUsed p)
          → EachOutcomes (IsTheoremOf used E) os
      all-settled NoOrigins vs rests h a = tt
      all-settled (MoreOrigins o os) vs rests h a =
          let x = bind-ok (value o) (λ v. values os >>= λ us. Ok (v ∷ us)) vs h in
          let y = bind-ok (values os) (λ us. Ok (x.0 ∷ us)) vs x.2 in (
            one-settled o x.0 rests.0 x.1 (a o (inl refl)).0 (a o (inl refl)).1,
            all-settled os y.0 rests.1 y.1
                (λ p m. a p (inr m)),
          )

module _ (same : Origin Name → Origin Name → Bool) (same-is : (a b : Origin Name) → Decides (same a b) (a ≡ b))
    (IsNamed : Name → Type 0) (r : RunState) (lawful : IsLawfulRun IsNamed r) (roots : List (Origin Name)) where
  abbrev ds : List (Origin Name)
  ds = origins_made r.definitions

  abbrev needed_ones : List (Origin Name)
  needed_ones = needed_definitions same roots ds

  abbrev has : Origin Name → Bool
  has = has_use same roots ds

  -- what was kept of the definitions pre
  record HasKept (pre earlier : List Made) (before : List (Origin Name)) : Type 0 where
    before_is : (o : Origin Name) → IsMember o before → IsMember o (origins_made pre)
    part : IsPart earlier pre
    cover : (o : Origin Name) → IsMember o (origins_made pre) → is_among same o needed_ones ≡ true
        → IsMember o (origins_made earlier)

  in-pre : (pre : List Made) (m : Made) (o : Origin Name) → IsMember o (origins_made (pre ++ m ∷ []))
      → IsMember o (origins_made pre ++ m.origin ∷ [])
  in-pre pre m o x = subst (λ l. IsMember o l) (map_push (λ (z : Made). z.origin) pre m) x

  kept-one : (pre earlier : List Made) (before : List (Origin Name)) (m : Made) → HasKept pre earlier before
      → HasKept (pre ++ m ∷ []) (earlier ++ m ∷ []) (m.origin ∷ before)
  kept-one pre earlier before m k = record {
    before_is = λ o x. subst (λ l. IsMember o l) (sym (map_push (λ (z : Made). z.origin) pre m))
        (elim x [
          | inl e ↦ IsMember-right o (origins_made pre) (m.origin ∷ []) (inl e)
          | inr y ↦
              IsMember-left o (origins_made pre) (m.origin ∷ []) (k.before_is o y)
        ]);
    part = λ x y. elim (IsMember-cases x earlier (m ∷ []) y)
        [ inl a ↦ IsMember-left x pre (m ∷ []) (k.part x a) | inr b ↦ IsMember-right x pre (m ∷ []) b ];
    cover = λ o x p. subst (λ l. IsMember o l) (sym (map_push (λ (z : Made). z.origin) earlier m))
        (elim (IsMember-cases o (origins_made pre) (m.origin ∷ []) (in-pre pre m o x)) [
          | inl a ↦ IsMember-left o (origins_made earlier) (m.origin ∷ []) (k.cover o a p)
          | inr b ↦
              IsMember-right o (origins_made earlier) (m.origin ∷ []) b
        ]);
  }

  left-one : (pre earlier : List Made) (before : List (Origin Name)) (m : Made)
      → (is_among same m.origin needed_ones && not (is_among same m.origin before)) ≡ false
      → HasKept pre earlier before → HasKept (pre ++ m ∷ []) earlier (m.origin ∷ before)
  left-one pre earlier before m left k = record {
    before_is = λ o x. subst (λ l. IsMember o l) (sym (map_push (λ (z : Made). z.origin) pre m))
        (elim x [
          | inl e ↦ IsMember-right o (origins_made pre) (m.origin ∷ []) (inl e)
          | inr y ↦
              IsMember-left o (origins_made pre) (m.origin ∷ []) (k.before_is o y)
        ]);
    part = λ x y. IsMember-left x pre (m ∷ []) (k.part x y);
    cover = λ o x p. elim (IsMember-cases o (origins_made pre) (m.origin ∷ []) (in-pre pre m o x)) [
      | inl a ↦ k.cover o a p
      | inr b ↦ elim b [
        | inl e ↦
            k.cover o (k.before_is o
            (subst (λ z. IsMember z before) e
            (among-to same same-is m.origin before
            (seen (is_among same m.origin needed_ones) (is_among same m.origin before)
            (ap (λ z. is_among same z needed_ones) e ∙ p) left)))) p
        | inr n ↦ elim n [ ]
      ]
    ];
  }
    where
      seen : (a b : Bool) → a ≡ true → (a && not b) ≡ false → b ≡ true
      seen true true e h = refl
      seen true false e h = absurd (cc)
      seen false b e h = absurd (cc)

  one-writable : (pre rest earlier : List Made) (before : List (Origin Name)) (m : Made) → r.definitions ≡ pre ++ m
      ∷ rest → is_among same m.origin needed_ones ≡ true → HasKept pre earlier before
      → IsWritableDefinition has earlier m
  one-writable pre rest earlier before m whole need k =
      let there : slice_get r.definitions (length pre) ≡ Some m = ap (λ l. slice_get l (length pre)) whole
      ∙ get-middle pre rest m in
      let law = lawful.definitions (length pre) m there in
      let front : take (length pre) r.definitions ≡ pre = ap (take (length pre)) whole
      ∙ take_at pre (m ∷ rest) (length pre) refl in
      let accepted : definition_of (definitions_of pre) m.origin ≡ Ok m.definition =
      subst (λ (l : List Made). definition_of (definitions_of l) m.origin ≡ Ok m.definition) front law.accepted in
      let rests : RestsOn (basis_of IsNamed r.assumptions pre) m.origin =
      subst (λ (l : List Made). RestsOn (basis_of IsNamed r.assumptions l) m.origin) front law.rests in
      let f = define-of (definitions_of pre) m.origin m.definition accepted in
      let on : AreOn (basis_of IsNamed r.assumptions pre) f.1 =
      subst (RestsOn (basis_of IsNamed r.assumptions pre)) f.2 rests in
      let vs = bind-ok (values f.1) (defines f.0 (definitions_of pre)) m.definition
      (ap (definition_of (definitions_of pre)) (sym f.2) ∙ accepted) in
      let in_whole : IsPart pre r.definitions =
      λ x y. subst (λ l. IsMember x l) (sym whole) (IsMember-left x pre (m ∷ rest) y) in
      let reached : IsReached roots ds m.origin =
      (needed-reached same same-is roots ds m.origin (among-to same same-is m.origin needed_ones need)).1 in
      let reached_d : IsReached roots ds (Define f.0 f.1) = subst (IsReached roots ds) f.2 reached in
      record {
        word = f.0;
        operands = f.1;
        is = f.2;
        settled = all-settled same same-is roots ds (basis_of IsNamed r.assumptions pre) (origins_made pre)
            (origins_made earlier) (λ d x. x) (IsPart-map (λ (z : Made). z.origin) pre r.definitions in_whole) k.cover
            f.1 vs.0 on vs.1
            (λ p x. (
              Operand (Define f.0 f.1) p reached_d x,
              operand-used same same-is roots ds (Define f.0 f.1) p
                  reached_d x,
            ));
        accepted = definition-less (definitions_of earlier) (definitions_of pre)
            (IsPart-map (λ (z : Made). z.definition) earlier pre k.part) m.origin m.definition accepted;
      }

  writable : (rest pre earlier : List Made) (before : List (Origin Name)) → r.definitions ≡ pre ++ rest
      → HasKept pre earlier before → AreWritable has earlier (kept same made_origin needed_ones before rest)
  writable [] pre earlier before whole k = tt
  writable (m ∷ rest) pre earlier before whole k =
      let next : r.definitions ≡ (pre ++ m ∷ []) ++ rest = whole ∙ sym (append_assoc pre (m ∷ []) rest) in
      go (is_among same m.origin needed_ones) (is_among same m.origin before) refl refl
      (λ left. writable rest (pre ++ m ∷ []) earlier (m.origin ∷ before) next
      (left-one pre earlier before m left k))
      (writable rest (pre ++ m ∷ []) (earlier ++ m ∷ []) (m.origin ∷ before) next
      (kept-one pre earlier before m k))
    where
      go : (a b : Bool) → is_among same m.origin needed_ones ≡ a → is_among same m.origin before ≡ b
          → ((is_among same m.origin needed_ones && not (is_among same m.origin before)) ≡ false
          → AreWritable has earlier (kept same made_origin needed_ones (m.origin ∷ before) rest))
          → AreWritable has (earlier ++ m ∷ []) (kept same made_origin needed_ones (m.origin ∷ before) rest)
          → AreWritable has earlier
          (cond (a && not b) (m ∷ kept same made_origin needed_ones (m.origin ∷ before) rest)
          (kept same made_origin needed_ones (m.origin ∷ before) rest))
      go true false e f left taken = (one-writable pre rest earlier before m whole e k, taken)
      go true true e f left taken = left (λ i. e i && not (f i))
      go false b e f left taken = left (λ i. e i && not (f i))

  pub are-writable : AreWritable has [] (needed_made same roots r.definitions)
  are-writable = subst (λ l. AreWritable has [] l) (kept-is same same-is made_origin needed_ones r.definitions)
      (writable r.definitions [] [] [] refl (record { before_is = λ o x. x; part = λ x y. y; cover = λ o x p. x }))

  -- a needed definition is among those that are kept
  pub kept-cover : (d : Origin Name) → IsMember d ds → is_among same d needed_ones ≡ true
      → IsMember d (origins_made (needed_made same roots r.definitions))
  kept-cover d m p = subst (λ l. IsMember d l) (sym (made-origins same same-is roots r.definitions))
      (among-to same same-is d needed_ones p)

  pub root-settled : (o : Origin Name) (v : Object) → Fits (run_basis IsNamed r) o v → IsMember o roots
      → EachOutcome (IsTheoremOf has (origins_made (needed_made same roots r.definitions))) o
  root-settled o v fits m =
      one-settled same same-is roots ds (run_basis IsNamed r) ds (origins_made (needed_made same roots r.definitions))
      (λ d x. x) (λ d x. x) kept-cover o v fits.rests fits.value_is (Root o m) (root-used same same-is roots ds o m)

-- ---- exports

exported-to : (q : Sequent Name) (es : List Export) → is_exported q es ≡ true → (i : ℕ) × (e : Export)
    × (i < length es) × (slice_get es i ≡ Some e) × (same_sequent names q e.sequent ≡ true)
exported-to q [] h = absurd (cc)
exported-to q (e ∷ es) h = go (same_sequent names q e.sequent) refl h (exported-to q es)
  where
    go : (b : Bool) → same_sequent names q e.sequent ≡ b → (b || is_exported q es) ≡ true
        → (is_exported q es ≡ true → (i : ℕ) × (f : Export) × (i < length es) × (slice_get es i ≡ Some f)
        × (same_sequent names q f.sequent ≡ true))
        → (i : ℕ) × (f : Export) × (i < length (e ∷ es)) × (slice_get (e ∷ es) i ≡ Some f)
        × (same_sequent names q f.sequent ≡ true)
    go true p h later = (0, e, omega arith, refl, p)
    go false p h later = let r = later h in let k : r.0 < length es = r.2 in (suc r.0, r.1, omega arith, r.3, r.4)

not-exported : (es pre rest : List Export) (e : Export) → es ≡ pre ++ e ∷ rest
    → AreApart (λ (x : Export). x.sequent) es → is_exported e.sequent pre ≡ false
not-exported es pre rest e whole apart = elim (bool_cases (is_exported e.sequent pre)) [
  | inl h ↦ (let r = exported-to e.sequent pre h in
      let here : slice_get es (length pre) ≡ Some e = ap (λ l. slice_get l (length pre)) whole
      ∙ get-middle pre rest e in
      let there : slice_get es r.0 ≡ Some r.1 = ap (λ l. slice_get l r.0) whole
      ∙ slice_get-append_left pre (e ∷ rest) r.0 r.1 r.3 in
      let one : length pre ≡ r.0 = apart (length pre) r.0 e r.1 here there r.4 in
      let low : r.0 < length pre = r.2 in
      absurd (omega arith))
  | inr h ↦ h
]

pub export-roots : (es : List Export) (e : Export) → IsMember e es → IsMember e.roots.theorem (export_roots es)
    × IsMember e.roots.list (export_roots es) × IsMember e.roots.term (export_roots es)
export-roots [] e m = elim m [ ]
export-roots (x ∷ es) e (inl p) = (
  inl (ap (λ (z : Export). z.roots.theorem) p),
  inr (inl (ap (λ (z : Export). z.roots.list) p)),
  inr
      (inr (inl (ap (λ (z : Export). z.roots.term) p))),
)
export-roots (x ∷ es) e (inr m) = let r = export-roots es e m in
    (inr (inr (inr r.0)), inr (inr (inr r.1)), inr (inr (inr r.2)))

pub roots-exports : (P : Origin Name → Type 0) (es : List Export)
    → ((e : Export) → IsMember e es → P e.roots.theorem × P e.roots.list × P e.roots.term) → (o : Origin Name)
    → IsMember o (export_roots es) → P o
roots-exports P [] h o m = elim m [ ]
roots-exports P (e ∷ es) h o (inl p) = subst P p (h e (inl refl)).0
roots-exports P (e ∷ es) h o (inr (inl p)) = subst P p (h e (inl refl)).1
roots-exports P (e ∷ es) h o (inr (inr (inl p))) = subst P p (h e (inl refl)).2
roots-exports P (e ∷ es) h o (inr (inr (inr m))) = roots-exports P es (λ f x. h f (inr x)) o m

module _ (same : Origin Name → Origin Name → Bool) (same-is : (a b : Origin Name) → Decides (same a b) (a ≡ b))
    (IsNamed : Name → Type 0) (r : RunState) (lawful : IsLawfulRun IsNamed r) (es : List Export)
    (exports : All (IsLawfulExport (run_basis IsNamed r)) es) (stated : All StatesSequent es)
    (apart : AreApart (λ (e : Export). e.sequent) es) where
  abbrev all_roots : List (Origin Name)
  all_roots = export_roots es

  abbrev its_definitions : List (Origin Name)
  its_definitions = origins_made (needed_made same all_roots r.definitions)

  pub roots-rest : (o : Origin Name) → IsMember o all_roots → RestsOn (run_basis IsNamed r) o
  roots-rest =
      roots-exports (RestsOn (run_basis IsNamed r)) es
      (λ e m. let x = All-at_member (IsLawfulExport (run_basis IsNamed r)) es e exports m in
      (x.proved.rests, x.listed.rests, x.stated.rests))

  exports-from : (rest pre : List Export) → es ≡ pre ++ rest
      → AreExports (has_use same all_roots (origins_made r.definitions)) its_definitions pre rest
  exports-from [] pre whole = tt
  exports-from (e ∷ rest) pre whole =
      let m : IsMember e es = subst (λ l. IsMember e l) (sym whole) (IsMember-right e pre (e ∷ rest) (inl refl)) in
      let x = All-at_member (IsLawfulExport (run_basis IsNamed r)) es e exports m in
      let roots = export-roots es e m in (
        record {
          settled = (
            root-settled same same-is IsNamed r lawful all_roots e.roots.theorem (theorem e.sequent) x.proved roots.0,
            root-settled same same-is IsNamed r lawful all_roots e.roots.list _ x.listed roots.1,
            root-settled same same-is IsNamed r lawful all_roots e.roots.term _ x.stated roots.2,
          );
          objects = x.objects;
          hyps = x.hyps;
          concl = x.concl;
          theorem_is = x.proved.value_is;
          list_is = x.listed.value_is;
          terms_are = x.are_terms;
          term_is = x.stated.value_is;
          matches = All-at_member StatesSequent es e stated m x.objects x.hyps x.concl x.listed.value_is x.are_terms
              x.stated.value_is;
        },
        not-exported es pre rest e whole apart,
        exports-from rest (pre ++ e ∷ []) (whole ∙ sym (append_assoc pre (e ∷ []) rest)),
      )

  pub are-exports : AreExports (has_use same all_roots (origins_made r.definitions)) its_definitions [] es
  are-exports = exports-from es [] refl
