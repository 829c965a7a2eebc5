-- A link in parts: what stops a part stops the whole.
use Rattle.std.specs.Prelude.{Result, Ok, Err, string_bytes}
use Rattle.std.proofs.Common.{◌≡◌, ◌∙◌, ℕ, List, [], ◌∷◌, ◌++◌, inl, inr, refl}
use Rattle.ot_logic.specs.Lists.{IsMember}
use Rattle.ot_kernel.specs.State as kernel
use Rattle.ot_link.specs.Stops.{Stop, Linked, go_on, ◌>>=◌}
use Rattle.ot_link.specs.Answers.{Stops, Comes}
use Rattle.ot_link.specs.declared.fault.LinkFault.{LinkFault}
use Rattle.ot_link.specs.declared.fault.LinkFault.TheVariants as link

member-behind : {X : Type 0} (xs ys : List X) (x : X) → IsMember x ys → IsMember x (xs ++ ys)
member-behind [] ys x m = m
member-behind (z ∷ xs) ys x m = inr (member-behind xs ys x m)

-- the whole has the answer of the rest, and needs all that the rest does
pub record IsRest {A : Type 0} (rest whole : Linked A) : Type 0 where
  pub answer : whole.answer ≡ rest.answer
  pub paths : (path : List ℕ) → IsMember path rest.paths → IsMember path whole.paths

pub rest-same : {A : Type 0} (l : Linked A) → IsRest l l
rest-same l = record { answer = refl; paths = λ path m. m }

pub rest-on : {A : Type 0} {a b c : Linked A} → IsRest a b → IsRest b c → IsRest a c
rest-on p q = record { answer = q.answer ∙ p.answer; paths = λ path m. q.paths path (p.paths path m) }

rest-went : {A B : Type 0} (paths : List (List ℕ)) (r : Result A Stop) (f : A → Linked B) (x : A) → r ≡ Ok x
    → IsRest (f x) (go_on paths r f)
rest-went paths (Ok y) f x e = let same : y ≡ x = cc in
    rw same (record { answer = refl; paths = λ path m. member-behind paths (f x).paths path m })
rest-went paths (Err stop) f x e = absurd (cc)

-- what goes on with what was made
pub rest-next : {A B : Type 0} (l : Linked A) (f : A → Linked B) (x : A) → l.answer ≡ Ok x → IsRest (f x) (l >>= f)
rest-next l f x e = rest-went l.paths l.answer f x e

stopped-went : {A B : Type 0} (paths : List (List ℕ)) (r : Result A Stop) (f : A → Linked B) (s : Stop) → r ≡ Err s
    → (go_on paths r f).answer ≡ Err s
stopped-went paths (Ok y) f s e = absurd (cc)
stopped-went paths (Err stop) f s e = let same : stop ≡ s = cc in rw same refl

needed-went : {A B : Type 0} (paths : List (List ℕ)) (r : Result A Stop) (f : A → Linked B) (path : List ℕ)
    → IsMember path paths → IsMember path (go_on paths r f).paths
needed-went paths (Ok y) f path m = member-before paths (f y).paths path m
  where
    member-before : (xs ys : List (List ℕ)) (x : List ℕ) → IsMember x xs → IsMember x (xs ++ ys)
    member-before [] ys x n = absurd n
    member-before (z ∷ xs) ys x (inl e) = inl e
    member-before (z ∷ xs) ys x (inr n) = inr (member-before xs ys x n)
needed-went paths (Err stop) f path m = m

module _ {A B : Type 0} (k : kernel.State) (l : Linked A) (f : A → Linked B) where
  stopped : (s : Stop) → l.answer ≡ Err s → (l >>= f).answer ≡ Err s
  stopped s e = stopped-went l.paths l.answer f s e

  -- what stops the first part stops the whole
  pub stops-first : (e : LinkFault) → Stops k e l → Stops k e (l >>= f)
  stops-first (link.Article path line fault) h = (h.0, h.1, stopped _ h.2)
  stops-first (link.Theory path line fault) h = stopped _ h
  stops-first (link.Structure path line fault) h = stopped _ h
  stops-first (link.TheoryTooLarge path) h = stopped _ h
  stops-first (link.NoFile path) h = stopped _ h
  stops-first (link.ReadFault path) h = needed-went l.paths l.answer f (string_bytes path) h
  stops-first (link.Memory memory) h = tt

module _ {A : Type 0} (k : kernel.State) (rest whole : Linked A) (is : IsRest rest whole) where
  pub stops-rest : (e : LinkFault) → Stops k e rest → Stops k e whole
  stops-rest (link.Article path line fault) h = (h.0, h.1, is.answer ∙ h.2)
  stops-rest (link.Theory path line fault) h = is.answer ∙ h
  stops-rest (link.Structure path line fault) h = is.answer ∙ h
  stops-rest (link.TheoryTooLarge path) h = is.answer ∙ h
  stops-rest (link.NoFile path) h = is.answer ∙ h
  stops-rest (link.ReadFault path) h = is.paths (string_bytes path) h
  stops-rest (link.Memory memory) h = tt

  -- the result of the rest is that of the whole
  pub comes-rest : {X : Type 0} (view : X → A) (r : Result X LinkFault) → Comes k view r rest → Comes k view r whole
  comes-rest view (Ok x) h = is.answer ∙ h
  comes-rest view (Err e) h = stops-rest e h
