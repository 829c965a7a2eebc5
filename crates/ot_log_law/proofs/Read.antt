-- What holds of each part of an object holds of what is read of its lists.
use Rattle.std.specs.Prelude.{if◌then◌else◌}
use Rattle.std.specs.List.{AllByRecursion}
use Rattle.std.proofs.Common.{◌≡◌, Bool, true, false, List, [], ◌∷◌, ◌++◌, Result, Ok, subst}
use Rattle.ot_logic.specs.Names.{Name}
use Rattle.ot_logic.specs.Naming.{names}
use Rattle.ot_logic.specs.Trees.{Ty, Variable, Tm}
use Rattle.ot_logic.specs.Hol.{TypeMap, TermMap, IsTyped}
use Rattle.ot_logic.specs.Faults.{Fault, BadSubst, BadDefinitionList}
use Rattle.ot_logic.specs.Answers.{◌>>=◌, unless}
use Rattle.ot_logic.specs.Rules.{has_type}
use Rattle.ot_laws.proofs.Tests.{tells_names, has_type-is}
use Rattle.ot_kernel.specs.Pairs.{with_type, with_term}
use Rattle.ot_machine.specs.Objects.{Object, Objects, name, list, a_type, variable, term, no_objects, more_objects}
use Rattle.ot_machine.specs.Places.{as_name, as_list, as_type, as_variable, as_term, as_each}
use Rattle.ot_machine.specs.Parts.{or_bad, two_of}
use Rattle.ot_machine.specs.Substitutions.{type_pair, term_pair, types_onto, terms_onto, maps_of}
use Rattle.ot_machine.specs.DefinitionLists.{definition_pair, pairs_of}
use Rattle.ot_machine.proofs.ObjectKinds.{name-is, list-is, type-is, variable-is, term-is, or_bad-is}
use Rattle.ot_logic.proofs.Elements.{AllByRecursion-append}
use Rattle.ot_logic.proofs.Results.{bind-ok, same_Ok, unless-ok}

all-if : {A : Type 0} (Q : A → Type 0) (c : Bool) (xs ys : List A) → AllByRecursion Q xs → AllByRecursion Q ys
    → AllByRecursion Q (if c then xs else ys)
all-if Q true xs ys h k = h
all-if Q false xs ys h k = k

-- each term of the variable part has its variable's type
terms_onto-typed : (os : Objects) (m r : TermMap names) → IsTyped names m → terms_onto m os ≡ Ok r → IsTyped names r
terms_onto-typed no_objects m r k e = subst (IsTyped names) (same_Ok m r e) k
terms_onto-typed (more_objects o os) m r k e =
    let a = bind-ok (term_pair o) _ r e in
    let b = bind-ok (unless BadSubst (has_type names a.0.1 a.0.0.ty)) _ r a.2 in
    let w = (has_type-is names tells_names a.0.1 a.0.0.ty).0
    (unless-ok BadSubst (has_type names a.0.1 a.0.0.ty) b.0 b.1) in
    terms_onto-typed os (with_term m a.0.0 a.0.1) r
    (all-if _ _ m (m ++ (a.0.0, a.0.1) ∷ []) k (AllByRecursion-append _ m ((a.0.0, a.0.1) ∷ []) k (w, tt))) b.2

pub maps-typed : (os : Objects) (maps : TypeMap names × TermMap names) → maps_of os ≡ Ok maps → IsTyped names maps.1
maps-typed os maps e =
    let a = bind-ok (two_of BadSubst os) _ maps e in
    let b = bind-ok (or_bad BadSubst (as_list a.0.0)) _ maps a.2 in
    let c = bind-ok (or_bad BadSubst (as_list a.0.1)) _ maps b.2 in
    let d = bind-ok (types_onto [] b.0) _ maps c.2 in
    let f = bind-ok (terms_onto [] c.0) _ maps d.2 in
    subst (λ (z : TypeMap names × TermMap names). IsTyped names z.1)
    (same_Ok (d.0, f.0) maps f.2) (terms_onto-typed c.0 [] f.0 tt f.1)

-- O of each object, Os of each of a list
module _ (O : Object → Type 0) (Os : Objects → Type 0) (opened : (os : Objects) → O (list os) → Os os)
    (first : (o : Object) (os : Objects) → Os (more_objects o os) → O o × Os os) where
  pub each-holds : {A : Type 0} (as_one : Object → Result A (Fault Name)) (Q : A → Type 0)
      → ((o : Object) (x : A) → O o → as_one o ≡ Ok x → Q x) → (os : Objects) (xs : List A) → Os os
      → as_each as_one os ≡ Ok xs
      → AllByRecursion Q xs
  each-holds as_one Q one no_objects xs h e = subst (AllByRecursion Q) (same_Ok [] xs e) tt
  each-holds as_one Q one (more_objects o os) xs h e =
      let a = bind-ok (as_one o) _ xs e in
      let b = bind-ok (as_each as_one os) _ xs a.2 in
      let (p, q) = first o os h in
      subst (AllByRecursion Q) (same_Ok (a.0 ∷ b.0) xs b.2) (one o a.0 p a.1, each-holds as_one Q one os b.0 q b.1)

  two-hold : (bad : Fault Name) (os : Objects) (p : Object × Object) → Os os → two_of bad os ≡ Ok p → O p.0 × O p.1
  two-hold bad no_objects p h e = absurd (cc)
  two-hold bad (more_objects o no_objects) p h e = absurd (cc)
  two-hold bad (more_objects o (more_objects q no_objects)) p h e =
      let (a, k) = first o (more_objects q no_objects) h in
      subst (λ (z : Object × Object). O z.0 × O z.1) (same_Ok (o, q) p e) (a, (first q no_objects k).0)
  two-hold bad (more_objects o (more_objects q (more_objects r os))) p h e = absurd (cc)

  -- a list of exactly two
  pair-holds : {A B : Type 0} (bad : Fault Name) (as_one : Object → Result A (Fault Name))
      (as_two : Object → Result B (Fault Name)) (P : A → Type 0) (Q : B → Type 0)
      → ((o : Object) (a : A) → O o → as_one o ≡ Ok a → P a) → ((o : Object) (b : B) → O o → as_two o ≡ Ok b → Q b)
      → (o : Object) (r : A × B) → O o
      → (or_bad bad (as_list o)
      >>= λ os. two_of bad os >>= λ p. or_bad bad (as_one p.0) >>= λ a. or_bad bad (as_two p.1) >>= λ b. Ok (a, b))
      ≡ Ok r
      → P r.0 × Q r.1
  pair-holds {A} {B} bad as_one as_two P Q one two o r h e =
      let a = bind-ok (or_bad bad (as_list o)) _ r e in
      let b = bind-ok (two_of bad a.0) _ r a.2 in
      let c = bind-ok (or_bad bad (as_one b.0.0)) _ r b.2 in
      let d = bind-ok (or_bad bad (as_two b.0.1)) _ r c.2 in
      let l = opened a.0 (subst O (list-is o a.0 (or_bad-is bad (as_list o) a.0 a.1)) h) in
      let (x, y) = two-hold bad a.0 b.0 l b.1 in
      subst (λ (z : A × B). P z.0 × Q z.1) (same_Ok (c.0, d.0) r d.2)
      (one b.0.0 c.0 x (or_bad-is bad (as_one b.0.0) c.0 c.1), two b.0.1 d.0 y (or_bad-is bad (as_two b.0.1) d.0 d.1))

  -- what is read as one object
  pub as-name : (o : Object) (n : Name) → O o → as_name o ≡ Ok n → O (name n)
  as-name o n h e = subst O (name-is o n e) h

  pub as-type : (o : Object) (t : Ty Name) → O o → as_type o ≡ Ok t → O (a_type t)
  as-type o t h e = subst O (type-is o t e) h

  pub as-variable : (o : Object) (v : Variable Name) → O o → as_variable o ≡ Ok v → O (variable v)
  as-variable o v h e = subst O (variable-is o v e) h

  pub as-term : (o : Object) (t : Tm Name) → O o → as_term o ≡ Ok t → O (term t)
  as-term o t h e = subst O (term-is o t e) h

  abbrev pub TypePair : Name × Ty Name → Type 0
  TypePair p = O (name p.0) × O (a_type p.1)

  abbrev pub TermPair : Variable Name × Tm Name → Type 0
  TermPair p = O (variable p.0) × O (term p.1)

  abbrev pub ConstantPair : Name × Variable Name → Type 0
  ConstantPair p = O (name p.0) × O (variable p.1)

  types_onto-hold : (os : Objects) (s r : TypeMap names) → Os os → AllByRecursion TypePair s → types_onto s os ≡ Ok r
      → AllByRecursion TypePair r
  types_onto-hold no_objects s r h k e = subst (AllByRecursion TypePair) (same_Ok s r e) k
  types_onto-hold (more_objects o os) s r h k e =
      let a = bind-ok (type_pair o) _ r e in
      let (p, q) = first o os h in
      let w = pair-holds BadSubst as_name as_type (λ n. O (name n)) (λ t. O (a_type t)) as-name as-type o a.0 p a.1 in
      types_onto-hold os (with_type s a.0.0 a.0.1) r q
      (all-if TypePair _ s (s ++ (a.0.0, a.0.1) ∷ []) k
      (AllByRecursion-append TypePair s ((a.0.0, a.0.1) ∷ []) k (w, tt))) a.2

  terms_onto-hold : (os : Objects) (m r : TermMap names) → Os os → AllByRecursion TermPair m → terms_onto m os ≡ Ok r
      → AllByRecursion TermPair r
  terms_onto-hold no_objects m r h k e = subst (AllByRecursion TermPair) (same_Ok m r e) k
  terms_onto-hold (more_objects o os) m r h k e =
      let a = bind-ok (term_pair o) _ r e in
      let b = bind-ok (unless BadSubst (has_type names a.0.1 a.0.0.ty)) _ r a.2 in
      let (p, q) = first o os h in
      let w = pair-holds BadSubst as_variable as_term (λ v. O (variable v)) (λ t. O (term t)) as-variable as-term o
      a.0 p a.1 in
      terms_onto-hold os (with_term m a.0.0 a.0.1) r q
      (all-if TermPair _ m (m ++ (a.0.0, a.0.1) ∷ []) k
      (AllByRecursion-append TermPair m ((a.0.0, a.0.1) ∷ []) k (w, tt))) b.2

  pub maps-hold : (os : Objects) (maps : TypeMap names × TermMap names) → Os os → maps_of os ≡ Ok maps
      → AllByRecursion TypePair maps.0 × AllByRecursion TermPair maps.1
  maps-hold os maps h e =
      let a = bind-ok (two_of BadSubst os) _ maps e in
      let b = bind-ok (or_bad BadSubst (as_list a.0.0)) _ maps a.2 in
      let c = bind-ok (or_bad BadSubst (as_list a.0.1)) _ maps b.2 in
      let d = bind-ok (types_onto [] b.0) _ maps c.2 in
      let f = bind-ok (terms_onto [] c.0) _ maps d.2 in
      let (x, y) = two-hold BadSubst os a.0 h a.1 in
      let types = opened b.0 (subst O (list-is a.0.0 b.0 (or_bad-is BadSubst (as_list a.0.0) b.0 b.1)) x) in
      let terms = opened c.0 (subst O (list-is a.0.1 c.0 (or_bad-is BadSubst (as_list a.0.1) c.0 c.1)) y) in
      subst (λ (z : TypeMap names × TermMap names). AllByRecursion TypePair z.0 × AllByRecursion TermPair z.1)
      (same_Ok (d.0, f.0) maps f.2) (types_onto-hold b.0 [] d.0 types tt d.1, terms_onto-hold c.0 [] f.0 terms tt f.1)

  pub pairs-hold : (os : Objects) (ps : List (Name × Variable Name)) → Os os → pairs_of os ≡ Ok ps
      → AllByRecursion ConstantPair ps
  pairs-hold =
      each-holds definition_pair ConstantPair (λ o p h e. pair-holds BadDefinitionList as_name
      as_variable (λ n. O (name n)) (λ v. O (variable v)) as-name as-variable o p h e)
