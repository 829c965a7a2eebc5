-- The refused parts of a written term, and which of them counts.
use Rattle.std.specs.Prelude.{◌≡◌, ◌<◌, ◌⊎◌, ℕ, ◌+◌, ◌-◌, Bool, true, false, cond, not, ◌&&◌}
use Rattle.std.specs.Prelude.{List, [], ◌∷◌, ◌++◌, length, Some, None, Result, Ok, Err}
use Rattle.std.specs.List.{AllByRecursion}
use Rattle.ot_logic.specs.Answers.{◌>>=◌}
use Rattle.ot_logic.specs.Names.{Name}
use Rattle.ot_logic.specs.Naming.{names}
use Rattle.ot_logic.specs.Trees.{Tm, Free, Con, Bound, App, Abs, Symbol}
use Rattle.ot_logic.specs.Hol.{bool_ty}
use Rattle.ot_forms.specs.declared.fault.TextFault.{TextFault}
use Rattle.ot_forms.specs.declared.fault.TextFault.TheVariants.{Syntax, TooManyOpen, Unbound}
use Rattle.ot_forms.specs.declared.fault.TextFault.TheVariants.{UnknownOperator, BadTypes, TooDeep}
use Rattle.ot_forms.specs.Forms.{Written, Writtens, Place, FreeAs, ConAs, Equal, Infix, Applied}
use Rattle.ot_forms.specs.Forms.{Binding, NoMore, More, type_text, term_text, WrittenSequent, hyps_text}
use Rattle.ot_forms.specs.Meaning.{Around, Refusal, place_of, constant_of, has_type, is_typed}
use Rattle.ot_forms.specs.Meaning.{fits, check, whole, relation_ty, equated, are_alike, meaning}

-- a refused part: the places of its first byte and behind its last, and the refusal
pub record Part : Type 0 where
  pub start : ℕ
  pub stop : ℕ
  pub fault : TextFault

-- the order in which the refusals are stated
abbrev pub rank : TextFault → ℕ
rank Unbound = 0
rank UnknownOperator = 1
rank BadTypes = 2
rank TooDeep = 3
rank Syntax = 4
rank TooManyOpen = 5

-- the part that ends first counts; where two end at one byte, the inner one; for one part the order of the refusals
abbrev pub CountsBefore : Part → Part → Type 0
CountsBefore p q = (p.stop < q.stop)
    ⊎ ((p.stop ≡ q.stop) × ((q.start < p.start) ⊎ ((p.start ≡ q.start) × (rank p.fault < rank q.fault))))

abbrev pub refused : ℕ → ℕ → TextFault → Bool → List Part
refused k e f true = record { start = k; stop = e; fault = f } ∷ []
refused k e f false = []

-- what a whole part is refused for, where it has a meaning
abbrev pub whole_parts : Around → Bool → ℕ → ℕ → Tm Name → List Part
whole_parts l wanted k e t = refused k e BadTypes (wanted && not (has_type l t (bool_ty names)))
    ++ refused k e TooDeep (not (fits l t))

-- where something fits, what comes of it
abbrev pub fitting : ℕ → ℕ → Bool → List Part → List Part
fitting k e b ps = cond b ps (refused k e BadTypes true)

-- where a part has a meaning
abbrev pub meant : Result (Tm Name) Refusal → (Tm Name → List Part) → List Part
meant (Ok t) f = f t
meant (Err r) f = []

-- a further application, before the last one
abbrev pub applied_meaning : Around → ℕ → Result (Tm Name) Refusal → Result (Tm Name) Refusal
    → Result (Tm Name) Refusal
applied_meaning l k f x = do
  g ← f
  y ← x
  _ ← check k BadTypes (is_typed l (App g y))
  whole l false k (App g y)

abbrev pub end_of : List (Symbol Name) → ℕ → Written → ℕ
end_of hidden k w = k + length (term_text hidden w)

abbrev mutual
  -- the refused parts of a written term: of those parts whose inner parts have meanings
  pub parts : List (Symbol Name) → Around → Bool → ℕ → Written → List Part
  parts hidden l wanted k (Place x) =
      elim (place_of l x)
      [ None ↦ refused k (k + length x) Unbound true | Some i ↦ whole_parts l wanted k (k + length x) (Bound i) ]
  parts hidden l wanted k (FreeAs n t) =
      whole_parts l wanted k (end_of hidden k (FreeAs n t)) (Free (record { name = n; ty = t }))
  parts hidden l wanted k (ConAs n t) = whole_parts l wanted k (end_of hidden k (ConAs n t)) (Con n t)
  parts hidden l wanted k (Equal a b) =
      let ka = k + 1 in let kb = k + 4 + length (term_text hidden a) in
      let e = end_of hidden k (Equal a b) in
      parts hidden l false ka a ++ (parts hidden l false kb b
      ++ meant (meaning hidden l false ka a)
      (λ x. meant (meaning hidden l false kb b)
      (λ y. fitting k e (are_alike l x y) (whole_parts l wanted k e (equated l x y)))))
  parts hidden l wanted k (Infix o a b) =
      let ka = k + 1 in let kb = k + 3 + length (term_text hidden a) + length o in
      let e = end_of hidden k (Infix o a b) in
      parts hidden l true ka a ++ (parts hidden l true kb b
      ++ meant (meaning hidden l true ka a)
      (λ x. meant (meaning hidden l true kb b)
      (λ y. elim (constant_of hidden o) [
        | None ↦ refused k e UnknownOperator true
        | Some n ↦
            whole_parts l wanted k e (App (App (Con n relation_ty) x) y)
      ])))
  parts hidden l wanted k (Applied f a more) =
      let kf = k + 1 in let ka = k + 2 + length (term_text hidden f) in
      parts hidden l false kf f ++ (parts hidden l false ka a
      ++ parts_applied hidden l wanted k (k + 3 + length (term_text hidden f) + length (term_text hidden a))
      (meaning hidden l false kf f) (meaning hidden l false ka a) more)
  parts hidden l wanted k (Binding x t a) =
      let ka = k + 8 + length x + length (type_text hidden t) in
      let e = end_of hidden k (Binding x t a) in
      parts hidden ((x, t) ∷ l) false ka a ++ meant (meaning hidden ((x, t) ∷ l) false ka a)
      (λ b. whole_parts l wanted k e (Abs t b))

  -- of an application up to the byte before place i, and of the further arguments, the first of them at place i
  pub parts_applied : List (Symbol Name) → Around → Bool → ℕ → ℕ → Result (Tm Name) Refusal → Result (Tm Name) Refusal
      → Writtens → List Part
  parts_applied hidden l wanted k i f x NoMore =
      meant f (λ g. meant x (λ y. fitting k i (is_typed l (App g y)) (whole_parts l wanted k i (App g y))))
  parts_applied hidden l wanted k i f x (More b bs) =
      meant f (λ g. meant x (λ y. fitting k (i - 1) (is_typed l (App g y)) (whole_parts l false k (i - 1) (App g y))))
      ++ (parts hidden l false i b ++ parts_applied hidden l wanted k (i + 1 + length (term_text hidden b))
      (applied_meaning l k f x) (meaning hidden l false i b) bs)

-- of the hypotheses from place k on, and of a line
abbrev pub hyps_parts : List (Symbol Name) → ℕ → List Written → List Part
hyps_parts hidden k [] = []
hyps_parts hidden k (a ∷ more) = parts hidden [] true k a ++ hyps_parts hidden (k + 2 + length (term_text hidden a))
    more

abbrev pub line_parts : List (Symbol Name) → WrittenSequent → List Part
line_parts hidden q = hyps_parts hidden 0 q.hyps ++ parts hidden [] true (length (hyps_text hidden q.hyps)) q.concl

-- every two in order
abbrev pub AreOrdered : List Part → Type 0
AreOrdered [] = Unit {0}
AreOrdered (p ∷ ps) = AllByRecursion (CountsBefore p) ps × AreOrdered ps
