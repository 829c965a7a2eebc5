-- A written term's text behind a parenthesis or a brace is what the readers of Terms read.
use Rattle.std.specs.Prelude.{◌≡◌, ◌≤◌, ℕ, suc, ◌==◌, ◌||◌, ◌&&◌, not, Bool, true, false, cond, List, [], ◌∷◌, ◌++◌}
use Rattle.std.specs.Prelude.{codes}
use Rattle.std.specs.List.{list_all}
use Rattle.std.proofs.Common.{refl, sym, ◌∙◌, ap, subst, append_assoc, inl, inr, arith, lit<}
use Rattle.std.proofs.lemmas.Slice.Eq.{bytes_eq-Decides}
use Rattle.std.proofs.lemmas.Bool.{and_parts, and_from}
use Rattle.ot_logic.specs.Names.{Name, IsName, spelled}
use Rattle.ot_logic.specs.Trees.{Ty, Symbol, ConSymbol}
use Rattle.ot_forms.specs.Words.{is_inner, is_letter, is_part, is_sign, is_operator, is_bare, dotted, same_text}
use Rattle.ot_forms.specs.Words.{variable_word, word}
use Rattle.ot_forms.specs.Forms.{type_text, HasNames, most_open_type, Written, Writtens, Place, FreeAs, ConAs, Equal}
use Rattle.ot_forms.specs.Forms.{Infix, Applied, Binding, term_text, terms_text, IsWritten, AreWritten, most_open}
use Rattle.ot_forms.specs.Forms.{most_open_all}
use Rattle.ot_forms.specs.Reading.{Reading, first_part, joined_by, closed_term_at, braced_at}
use Rattle.ot_forms.proofs.Readers.{Reads, Image, Begins, Any, told}
use Rattle.ot_forms.proofs.Types.{IsEnd, SaysType, differs, other_byte}
use Rattle.ot_forms.proofs.BareWords.{SaysBare}
use Rattle.ot_forms.proofs.Marks.{SaysPart, SaysSigns}
use Rattle.ot_forms.proofs.Terms as terms
use Rattle.ot_forms.proofs.Terms.{after-some, after-text, starts_term, is_colon, opens_term_byte, IsConstantEnd}
use Rattle.ot_forms.proofs.Terms.{SaysConstant, SaysTerm, starts, application-byte, operation-byte, free-byte}
use Rattle.ot_forms.proofs.Terms.{named-inside, closed-reads, braced-reads}

module _ (hidden : List (Symbol Name)) where
  module _ (m : ℕ) (constant_at : List ℕ → Reading Name) (type : List ℕ → Reading (Ty Name))
      (term : List ℕ → Reading Written) (hc : Reads (SaysConstant hidden) IsConstantEnd constant_at)
      (hy : Reads (SaysType hidden m) IsEnd type) (ht : Reads (SaysTerm hidden m) IsEnd term) where
    -- ---- the languages of the readers
    abbrev Free : Name → Written → List ℕ → Type 0
    Free = terms.Free hidden m constant_at type term hc hy ht

    abbrev Application : Written → Written → List ℕ → Type 0
    Application = terms.Application hidden m constant_at type term hc hy ht

    abbrev Operation : Written → Written → List ℕ → Type 0
    Operation = terms.Operation hidden m constant_at type term hc hy ht

    abbrev Behind : Written → Written → List ℕ → Type 0
    Behind = terms.Behind hidden m constant_at type term hc hy ht

    abbrev BehindBare : Name → Written → List ℕ → Type 0
    BehindBare = terms.BehindBare hidden m constant_at type term hc hy ht

    abbrev Named : Written → List ℕ → Type 0
    Named = terms.Named hidden m constant_at type term hc hy ht

    abbrev Quoted : Written → List ℕ → Type 0
    Quoted = terms.Quoted hidden m constant_at type term hc hy ht

    abbrev Headed : Written → List ℕ → Type 0
    Headed = terms.Headed hidden m constant_at type term hc hy ht

    abbrev Bound_by : Written → List ℕ → Type 0
    Bound_by = terms.Bound_by hidden m constant_at type term hc hy ht

    abbrev Type_body : List ℕ → Written → List ℕ → Type 0
    Type_body = terms.Type_body hidden m constant_at type term hc hy ht

    abbrev Part_typed : Written → List ℕ → Type 0
    Part_typed = terms.Part_typed hidden m constant_at type term hc hy ht

    abbrev Plain : Written → List ℕ → Type 0
    Plain = terms.Plain hidden m constant_at type term hc hy ht

    abbrev Unquoted : Written → List ℕ → Type 0
    Unquoted = terms.Unquoted hidden m constant_at type term hc hy ht

    abbrev Inside : Written → List ℕ → Type 0
    Inside = terms.Inside hidden m constant_at type term hc hy ht

    abbrev Closed : Written → List ℕ → Type 0
    Closed = terms.Closed hidden m constant_at type term hc hy ht

    abbrev Constant_type : Name → Written → List ℕ → Type 0
    Constant_type = terms.Constant_type hidden m constant_at type term hc hy ht

    abbrev Braced : Written → List ℕ → Type 0
    Braced = terms.Braced hidden m constant_at type term hc hy ht

    -- ---- the texts, regrouped
    three : (a b c : List ℕ) → (a ++ b) ++ c ≡ a ++ (b ++ c)
    three a b c = append_assoc a b c

    four : (a b c d : List ℕ) → ((a ++ b) ++ c) ++ d ≡ a ++ (b ++ (c ++ d))
    four a b c d = simp append_assoc

    five : (a b c d e : List ℕ) → (((a ++ b) ++ c) ++ d) ++ e ≡ a ++ (b ++ (c ++ (d ++ e)))
    five a b c d e = simp append_assoc

    says-of : (w : Written) → IsWritten w → most_open w ≤ m → SaysTerm hidden m w (term_text hidden w)
    says-of w f k = record { text = refl; fine = f; within = k }

    -- ---- what stands between parentheses is a written term's
    abbrev Whole : Written → List ℕ → Type 0
    Whole w x = SaysTerm hidden (suc m) w (40 ∷ (x ++ codes ")"))

    free-whole : (n : Name) (v y : List ℕ) (w : Written) → IsName n → v ≡ variable_word n → Free n w y
        → Whole w (v ++ 32 ∷ y)
    free-whole n v y w hn e h = let t = h.then in
        subst (λ z. Whole z (v ++ 32 ∷ y)) (sym t.is) (record {
          text = ap (λ z. 40 ∷ (z ++ 41 ∷ []))
              ((λ i. e i ++ 32
              ∷ (after-text (codes ": ") (Image (FreeAs n) (SaysType hidden m)) w y h ∙ ap (λ z. codes ": " ++ z)
              t.says.text) i) ∙ sym (three (variable_word n) (32 ∷ 58 ∷ 32 ∷ []) (type_text hidden t.from)));
          fine = (hn, t.says.named);
          within = let k = t.says.within in omega (arith, k);
        })

    operator-is : (o : List ℕ) → SaysSigns o o → same_text o (61 ∷ []) ≡ false → is_operator o ≡ true
    operator-is o h e = subst (λ z. same_text z (61 ∷ []) ≡ false → is_operator z ≡ true) (sym h.is)
        (λ e. λ i. (h.begins i && h.inner_is i) && not (e i)) e

    infix-whole : (a b : Written) (o : List ℕ) → IsWritten a → IsWritten b → most_open a ≤ m → most_open b ≤ m
        → SaysSigns o o → Whole (joined_by a o b) (term_text hidden a ++ 32 ∷ (o ++ 32 ∷ term_text hidden b))
    infix-whole a b o fa fb ka kb h = go (same_text o (61 ∷ [])) refl where
      go : (t : Bool) → same_text o (61 ∷ []) ≡ t
          → Whole (cond t (Equal a b) (Infix o a b)) (term_text hidden a ++ 32 ∷ (o ++ 32 ∷ term_text hidden b))
      go true e = let q : o ≡ 61 ∷ [] = (bytes_eq-Decides o (61 ∷ [])).0 e in record {
        text = ap (λ z. 40 ∷ (z ++ 41 ∷ [])) (ap (λ z. term_text hidden a ++ 32 ∷ (z ++ 32 ∷ term_text hidden b)) q
            ∙ sym (three (term_text hidden a) (32 ∷ 61 ∷ 32 ∷ []) (term_text hidden b)));
        fine = (fa, fb);
        within = omega arith;
      }
      go false e = record {
        text = ap (λ z. 40 ∷ (z ++ 41 ∷ []))
            (sym (five (term_text hidden a) (32 ∷ []) o (32 ∷ []) (term_text hidden b)));
        fine = (operator-is o h e, fa, fb);
        within = omega arith;
      }

    run-itself : (o y : List ℕ) → SaysSigns o y → SaysSigns o o
    run-itself o y h =
        record {
          first_byte = h.first_byte;
          rest = h.rest;
          is = h.is;
          begins = h.begins;
          inner_is = h.inner_is;
          text = refl;
        }

    behind-whole : (a w : Written) (y : List ℕ) → IsWritten a → most_open a ≤ m → Behind a w y
        → Whole w (term_text hidden a ++ 32 ∷ y)
    behind-whole a w y fa ka h = elim h [ inl p ↦ operation p.0 | inr q ↦ application q.0 ] where
      operation : Operation a w y → Whole w (term_text hidden a ++ 32 ∷ y)
      operation p =
          let q = p.then.then in
          let text : y ≡ p.one ++ 32 ∷ term_text hidden q.from =
          p.is ∙ (λ i. p.says.text i
          ++ (after-text (codes " ") (Image (joined_by a p.one) (SaysTerm hidden m)) w p.back p.then
          ∙ ap (λ z. 32 ∷ z) q.says.text) i) in
          let s = infix-whole a q.from p.one fa q.says.fine ka q.says.within (run-itself p.one p.front p.says) in
          subst (λ z. Whole z (term_text hidden a ++ 32 ∷ y)) (sym q.is)
          (subst (λ z. Whole (joined_by a p.one q.from) (term_text hidden a ++ 32 ∷ z)) (sym text) s)

      application : Application a w y → Whole w (term_text hidden a ++ 32 ∷ y)
      application p =
          let q = p.then in
          let text : y ≡ term_text hidden p.one ++ terms_text hidden q.from =
          p.is ∙ (λ i. p.says.text i ++ q.says.text i) in
          subst (λ z. Whole z (term_text hidden a ++ 32 ∷ y)) (sym q.is) (record {
            text = ap (λ z. 40 ∷ (z ++ 41 ∷ [])) (ap (λ z. term_text hidden a ++ 32 ∷ z) text
                ∙ sym (four (term_text hidden a) (32 ∷ []) (term_text hidden p.one) (terms_text hidden q.from)));
            fine = (fa, p.says.fine, q.says.fine);
            within = let k1 = p.says.within in let k2 = q.says.within in omega (arith, ka, k1, k2);
          })

    part-is : (x y : List ℕ) → SaysPart x y → is_part x ≡ true
    part-is x y h = subst (λ z. is_part z ≡ true) (sym h.is) (λ i. h.begins i && h.inner_is i)

    binding-whole : (w : Written) (y : List ℕ) → Bound_by w y → Whole w y
    binding-whole w y h =
        let p = h.then in let ty = p.then.then in let b = ty.then.then in
        let text : y ≡ 92 ∷ (p.one ++ 32 ∷ 58 ∷ 32 ∷ (type_text hidden ty.one ++ 32 ∷ 46 ∷ 32 ∷ term_text hidden b.from)) =
        after-text (codes "\\") Part_typed w y h
        ∙ ap (λ z. 92 ∷ z)
        (p.is ∙ (λ i. p.says.text i
        ++ (after-text (codes " : ") (Type_body p.one) w p.back p.then
        ∙ ap (λ z. 32 ∷ 58 ∷ 32 ∷ z)
        (ty.is ∙ (λ j. ty.says.text j
        ++ (after-text (codes " . ") (Image (Binding p.one ty.one) (SaysTerm hidden m)) w ty.back ty.then
        ∙ ap (λ z. 32 ∷ 46 ∷ 32 ∷ z) b.says.text) j))) i)) in
        subst (λ z. Whole z y) (sym b.is) (record {
          text = ap (λ z. 40 ∷ (z ++ 41 ∷ []))
              (text ∙ ap (λ z. 92 ∷ z)
              (sym (five p.one (32 ∷ 58 ∷ 32 ∷ []) (type_text hidden ty.one) (32 ∷ 46 ∷ 32 ∷ [])
              (term_text hidden b.from))));
          fine = (part-is p.one p.front p.says, ty.says.named, b.says.fine);
          within = let k1 = ty.says.within in let k2 = b.says.within in omega (arith, k1, k2);
        })

    named-whole : (w : Written) (y : List ℕ) → Named w y → Whole w y
    named-whole w y h = elim h.then.then [ inl p ↦ free p.0 | inr q ↦ place h.one h.says q.0 q.1 refl ] where
      text : y ≡ h.front ++ 32 ∷ h.then.back
      text = h.is ∙ ap (λ z. h.front ++ z) (after-text (codes " ") (BehindBare h.one) w h.back h.then)

      free : Free h.one w h.then.back → Whole w y
      free p = subst (Whole w) (sym text)
          (free-whole h.one h.front h.then.back w h.says.named
          (h.says.text ∙ (λ i. cond (sym h.says.bare i) (dotted h.one) (spelled h.one))) p)

      place : (n : Name) → SaysBare n h.front → Behind (Place (first_part n)) w h.then.back
          → Begins (is_colon n) false h.then.back → n ≡ n → Whole w y
      place [] s q k r = absurd (let z = s.named in omega (arith, z))
      place (x ∷ []) s q k r = subst (Whole w) (sym (text ∙ ap (λ z. z ++ 32 ∷ h.then.back) s.text))
          (behind-whole (Place x) w h.then.back (and_parts (is_part x) true s.bare).0 (omega arith) q)
      place (x ∷ d ∷ ds) s q k r = absurd (never (k.byte == 58) k.tells)
        where
          never : (t : Bool) → (t || true) ≡ false → ⊥
          never true e = cc
          never false e = cc

    inside-whole : (w : Written) (y : List ℕ) → Inside w y → Whole w y
    inside-whole w y h = elim h [ inl b ↦ binding-whole w y b.0 | inr u ↦ unquoted u.0 ] where
      unquoted : Unquoted w y → Whole w y
      unquoted u = elim u [
        | inl p ↦ let q = p.0 in
            subst (Whole w)
            (sym (q.is ∙ ap (λ z. q.front ++ z) (after-text (codes " ") (Free q.one) w q.back q.then)))
            (free-whole q.one q.front q.then.back w q.says.named q.says.text q.then.then)
        | inr p ↦ elim p.0 [
          | inl d ↦ let q = d.0 in
              subst (Whole w)
              (sym (q.is ∙ (λ i. q.says.text i ++ after-text (codes " ") (Behind q.one) w q.back q.then i)))
              (behind-whole q.one w q.then.back q.says.fine q.says.within q.then.then)
          | inr d ↦ named-whole w y d.0
        ]
      ]

    abbrev Opened : Written → List ℕ → Type 0
    Opened w x = SaysTerm hidden (suc m) w (40 ∷ x)

    closed-says : (w : Written) (x : List ℕ) → Closed w x → Opened w x
    closed-says w x h =
        let s = inside-whole h.one h.front h.says in
        let text : x ≡ h.front ++ codes ")" = h.is ∙ ap (λ z. h.front ++ z) h.then.says in
        let all : Opened h.one x = subst (λ z. SaysTerm hidden (suc m) h.one (40 ∷ z)) (sym text) s in
        subst (λ z. Opened z x) (sym h.then.is) all

    -- ---- each written term's text between parentheses is read
    closed-of : (w : Written) (x : List ℕ) → Inside w x → Closed w (x ++ codes ")")
    closed-of w x h = record {
      one = w;
      front = x;
      back = codes ")";
      says = h;
      then =
          record { from = tt; says = refl; is = refl };
      is = refl;
    }

    not_lambda : (w : Written) (y : List ℕ) (b : ℕ) (z : List ℕ) → y ≡ b ∷ z → (b == 92) ≡ false → Unquoted w y
        → Inside w y
    not_lambda w y b z e d h = inr (h, record { byte = b; rest = z; is = e; tells = d })

    -- a term that begins with a parenthesis or a brace, and what goes on behind it
    headed-inside : (a w : Written) (y : List ℕ) (b : ℕ) (z : List ℕ) → term_text hidden a ≡ b ∷ z → opens_term_byte b
        ≡ true → IsWritten a → most_open a ≤ m → Behind a w y → Inside w (term_text hidden a ++ 32 ∷ y)
    headed-inside a w y b z e d fa ka h =
        let x : Headed w (term_text hidden a ++ 32 ∷ y) =
        record {
          one = a;
          front = term_text hidden a;
          back = 32 ∷ y;
          says = says-of a fa ka;
          then = after-some (codes " ") (Behind a) w y h;
          is = refl;
        } in
        let is : term_text hidden a ++ 32 ∷ y ≡ b ∷ (z ++ 32 ∷ y) = ap (λ q. q ++ 32 ∷ y) e in
        let p : Plain w (term_text hidden a ++ 32 ∷ y) =
        inl (x, record { byte = b; rest = z ++ 32 ∷ y; is = is; tells = d }) in
        not_lambda w _ b (z ++ 32 ∷ y) is (differs opens_term_byte 92 b refl d)
        (inr (p, record { byte = b; rest = z ++ 32 ∷ y; is = is; tells = differs opens_term_byte 34 b refl d }))

    no_colon : (a w : Written) (y : List ℕ) → Behind a w y → Begins (λ b. b == 58) false y
    no_colon a w y h = elim h [
      | inl p ↦
          record { byte = p.1.byte; rest = p.1.rest; is = p.1.is; tells = differs is_sign 58 p.1.byte refl p.1.tells }
      | inr q ↦ let k = starts hidden m constant_at type term hc hy ht q.0.one q.0.says.fine in
          record {
            byte = k.byte;
            rest = k.rest ++ q.0.back;
            is = q.0.is
                ∙ ap (λ z. z ++ q.0.back) (q.0.says.text ∙ k.is);
            tells = differs starts_term 58 k.byte refl k.tells;
          }
    ]

    place-inside : (x : List ℕ) (w : Written) (y : List ℕ) → is_part x ≡ true → Behind (Place x) w y
        → Inside w (x ++ 32 ∷ y)
    place-inside x w y fx h =
        let k = no_colon (Place x) w y h in
        let b : BehindBare (x ∷ []) w y =
        inr (h, record { byte = k.byte; rest = k.rest; is = k.is; tells = ap (λ t. t || false) k.tells }) in
        named-inside hidden m constant_at type term hc hy ht w (x ++ 32 ∷ y)
        (record {
          one = x ∷ [];
          front = x;
          back = 32 ∷ y;
          says = record { bare = and_from (is_part x) true fx refl; named = lit< tt; text = refl };
          then =
              after-some (codes " ") (BehindBare (x ∷ [])) w y b;
          is = refl;
        })

    head-inside : (a w : Written) (y : List ℕ) → IsWritten a → most_open a ≤ m → Behind a w y
        → Inside w (term_text hidden a ++ 32 ∷ y)
    head-inside (Place x) w y fa ka h = place-inside x w y fa h
    head-inside (FreeAs n t) w y fa ka h = headed-inside (FreeAs n t) w y 40 _ refl refl fa ka h
    head-inside (ConAs n t) w y fa ka h = headed-inside (ConAs n t) w y 123 _ refl refl fa ka h
    head-inside (Equal a b) w y fa ka h = headed-inside (Equal a b) w y 40 _ refl refl fa ka h
    head-inside (Infix o a b) w y fa ka h = headed-inside (Infix o a b) w y 40 _ refl refl fa ka h
    head-inside (Applied f a more) w y fa ka h = headed-inside (Applied f a more) w y 40 _ refl refl fa ka h
    head-inside (Binding x t a) w y fa ka h = headed-inside (Binding x t a) w y 40 _ refl refl fa ka h

    operation-behind : (a b : Written) (o : List ℕ) → SaysSigns o o → IsWritten b → most_open b ≤ m
        → Behind a (joined_by a o b) (o ++ 32 ∷ term_text hidden b)
    operation-behind a b o ho fb kb =
        let h : Operation a (joined_by a o b) (o ++ 32 ∷ term_text hidden b) =
        record {
          one = o;
          front = o;
          back = 32 ∷ term_text hidden b;
          says = ho;
          then = after-some (codes " ") (Image (joined_by a o) (SaysTerm hidden m)) _ (term_text hidden b)
              (record { from = b; says = says-of b fb kb; is = refl });
          is = refl;
        } in
        inl (h, operation-byte hidden m constant_at type term hc hy ht a _ _ h)

    application-behind : (a b : Written) (more : Writtens) → IsWritten b → AreWritten more → most_open b ≤ m
        → most_open_all more ≤ m → Behind a (Applied a b more) (term_text hidden b ++ terms_text hidden more)
    application-behind a b more fb fm kb km =
        let h : Application a (Applied a b more) (term_text hidden b ++ terms_text hidden more) =
        record {
          one = b;
          front = term_text hidden b;
          back = terms_text hidden more;
          says = says-of b fb kb;
          then = record { from = more; says = record { text = refl; fine = fm; within = km }; is = refl };
          is =
              refl;
        } in
        inr (h, application-byte hidden m constant_at type term hc hy ht a _ _ h)

    free-says : (n : Name) (t : Ty Name) → HasNames t → most_open_type t ≤ m
        → Free n (FreeAs n t) (58 ∷ 32 ∷ type_text hidden t)
    free-says n t ht kt = after-some (codes ": ") (Image (FreeAs n) (SaysType hidden m)) (FreeAs n t)
        (type_text hidden t) (record { from = t; says = record { text = refl; named = ht; within = kt }; is = refl })

    free-inside : (n : Name) (t : Ty Name) → IsName n → HasNames t → most_open_type t ≤ m
        → Inside (FreeAs n t) (variable_word n ++ 32 ∷ 58 ∷ 32 ∷ type_text hidden t)
    free-inside n t hn tn kt = go (is_bare n) refl where
      go : (b : Bool) → is_bare n ≡ b
          → Inside (FreeAs n t) (cond b (dotted n) (spelled n) ++ 32 ∷ 58 ∷ 32 ∷ type_text hidden t)
      go true e = named-inside hidden m constant_at type term hc hy ht _ _ (record {
        one = n;
        front = dotted n;
        back = 32 ∷ 58 ∷ 32 ∷ type_text hidden t;
        says = record { bare = e; named = hn; text = refl };
        then = after-some (codes " ") (BehindBare n) _ _
            (inl (
              free-says n t tn kt,
              free-byte hidden m constant_at type term hc hy ht n _ _
                  (free-says n t tn kt),
            ));
        is = refl;
      })
      go false e =
          let q : Quoted (FreeAs n t) (spelled n ++ 32 ∷ 58 ∷ 32 ∷ type_text hidden t) = record {
            one = n;
            front = spelled n;
            back = 32 ∷ 58 ∷ 32 ∷ type_text hidden t;
            says = record { named = hn; text = λ i. cond (sym e i) (dotted n) (spelled n) };
            then = after-some (codes " ") (Free n) _ _ (free-says n t tn kt);
            is = refl;
          } in
          not_lambda _ _ 34 _ refl refl (inl (q, record { byte = 34; rest = _; is = refl; tells = refl }))

    part-says : (x : List ℕ) → is_part x ≡ true → SaysPart x x
    part-says [] h = cc
    part-says (b ∷ x) h = let k = and_parts (is_letter b) (list_all is_inner x) h in
        record { first_byte = b; rest = x; is = refl; begins = k.0; inner_is = k.1; text = refl }

    signs-says : (o : List ℕ) → is_operator o ≡ true → SaysSigns o o
    signs-says [] h = cc
    signs-says (b ∷ o) h = let k = and_parts (list_all is_sign (b ∷ o)) (not (same_text (b ∷ o) (61 ∷ []))) h in
        let l = and_parts (is_sign b) (list_all is_sign o) k.0 in
        record { first_byte = b; rest = o; is = refl; begins = l.0; inner_is = l.1; text = refl }

    binding-inside : (x : List ℕ) (t : Ty Name) (a : Written) → is_part x ≡ true → HasNames t → IsWritten a
        → most_open_type t ≤ m → most_open a ≤ m → Inside (Binding x t a)
        (92 ∷ (x ++ 32 ∷ 58 ∷ 32 ∷ (type_text hidden t ++ 32 ∷ 46 ∷ 32 ∷ term_text hidden a)))
    binding-inside x t a fx ht fa kt ka =
        let body = after-some (codes " . ") (Image (Binding x t) (SaysTerm hidden m)) (Binding x t a)
        (term_text hidden a)
        (record { from = a; says = says-of a fa ka; is = refl }) in
        let ty : Type_body x (Binding x t a) (type_text hidden t ++ 32 ∷ 46 ∷ 32 ∷ term_text hidden a) =
        record {
          one = t;
          front = type_text hidden t;
          back = 32 ∷ 46 ∷ 32 ∷ term_text hidden a;
          says = record { text = refl; named = ht; within = kt };
          then = body;
          is = refl;
        } in
        let p : Part_typed (Binding x t a) (x ++ 32 ∷ 58 ∷ 32 ∷ (type_text hidden t ++ 32 ∷ 46 ∷ 32 ∷ term_text hidden a)) = record { one = x; front = x; back = 32 ∷ 58 ∷ 32 ∷ (type_text hidden t ++ 32 ∷ 46 ∷ 32 ∷ term_text hidden a); says = part-says x fx; then = after-some (codes " : ") (Type_body x) _ _ ty; is = refl } in
        let h : Bound_by (Binding x t a) (92 ∷ (x ++ 32 ∷ 58 ∷ 32 ∷ (type_text hidden t ++ 32 ∷ 46 ∷ 32 ∷ term_text hidden a))) = after-some (codes "\\") Part_typed (Binding x t a) (x ++ 32 ∷ 58 ∷ 32 ∷ (type_text hidden t ++ 32 ∷ 46 ∷ 32 ∷ term_text hidden a)) p in
        inl (h, record { byte = 92; rest = _; is = refl; tells = refl })

    -- what stands between the parentheses
    behind_it : {x y : List ℕ} → 40 ∷ x ≡ 40 ∷ y → x ≡ y
    behind_it e = cc

    closed-at : (w : Written) (x y : List ℕ) → 40 ∷ x ≡ 40 ∷ (y ++ codes ")") → Inside w y → Closed w x
    closed-at w x y e h = subst (Closed w) (sym (behind_it e)) (closed-of w y h)

    says-closed : (w : Written) (x : List ℕ) → Opened w x → Closed w x
    says-closed (Place []) x h = let f = h.fine in cc
    says-closed (Place (b ∷ z)) x h =
        let k = and_parts (is_letter b) (list_all is_inner z) h.fine in
        absurd (other_byte b 40 z x (differs is_letter 40 b refl k.0) (sym h.text))
    says-closed (FreeAs n t) x h = closed-at (FreeAs n t) x _ (h.text ∙ ap (λ z. 40 ∷ (z ++ codes ")"))
        (three (variable_word n) (32 ∷ 58 ∷ 32 ∷ []) (type_text hidden t)))
        (free-inside n t h.fine.0 h.fine.1 (let k = h.within in omega (arith, k)))
    says-closed (ConAs n t) x h = absurd (other_byte 40 123 x _ refl h.text)
    says-closed (Equal a b) x h = closed-at (Equal a b) x _ (h.text ∙ ap (λ z. 40 ∷ (z ++ codes ")"))
        (three (term_text hidden a) (32 ∷ 61 ∷ 32 ∷ []) (term_text hidden b)))
        (head-inside a (Equal a b) (61 ∷ 32 ∷ term_text hidden b) h.fine.0 (let k = h.within in omega (arith, k))
        (operation-behind a b (61 ∷ [])
        (record { first_byte = 61; rest = []; is = refl; begins = refl; inner_is = refl; text = refl }) h.fine.1
        (let k = h.within in omega (arith, k))))
    says-closed (Infix o a b) x h = closed-at (Infix o a b) x _ (h.text ∙ ap (λ z. 40 ∷ (z ++ codes ")"))
        (five (term_text hidden a) (32 ∷ []) o (32 ∷ []) (term_text hidden b)))
        (subst (λ w. Inside w (term_text hidden a ++ 32 ∷ (o ++ 32 ∷ term_text hidden b))) (no_equals o h.fine.0)
        (head-inside a (joined_by a o b) (o ++ 32 ∷ term_text hidden b) h.fine.1
        (let k = h.within in omega (arith, k))
        (operation-behind a b o (signs-says o h.fine.0) h.fine.2 (let k = h.within in omega (arith, k)))))
      where
        no_equals : (o : List ℕ) → is_operator o ≡ true → joined_by a o b ≡ Infix o a b
        no_equals [] e = cc
        no_equals (c ∷ o) e = let k = and_parts (list_all is_sign (c ∷ o)) (not (same_text (c ∷ o) (61 ∷ []))) e in
            go (same_text (c ∷ o) (61 ∷ [])) k.1
          where
            go : (t : Bool) → not t ≡ true → cond t (Equal a b) (Infix (c ∷ o) a b) ≡ Infix (c ∷ o) a b
            go true q = cc
            go false q = refl
    says-closed (Applied f a more) x h = closed-at (Applied f a more) x _ (h.text ∙ ap (λ z. 40 ∷ (z ++ codes ")"))
        (four (term_text hidden f) (32 ∷ []) (term_text hidden a) (terms_text hidden more)))
        (head-inside f (Applied f a more) (term_text hidden a ++ terms_text hidden more) h.fine.0
        (let k = h.within in omega (arith, k))
        (application-behind f a more h.fine.1 h.fine.2 (let k = h.within in omega (arith, k))
        (let k = h.within in omega (arith, k))))
    says-closed (Binding x0 t a) x h = closed-at (Binding x0 t a) x _ (h.text ∙ ap (λ z. 40 ∷ 92 ∷ (z ++ codes ")"))
        (five x0 (32 ∷ 58 ∷ 32 ∷ []) (type_text hidden t) (32 ∷ 46 ∷ 32 ∷ []) (term_text hidden a)))
        (binding-inside x0 t a h.fine.0 h.fine.1 h.fine.2 (let k = h.within in omega (arith, k))
        (let k = h.within in omega (arith, k)))

    pub opened-reads : Reads Opened Any (closed_term_at constant_at type term)
    opened-reads = told Closed Opened Any (closed_term_at constant_at type term)
        (closed-reads hidden m constant_at type term hc hy ht) closed-says says-closed

    -- ---- behind a brace
    abbrev Brace : Written → List ℕ → Type 0
    Brace w x = SaysTerm hidden (suc m) w (123 ∷ x)

    brace-says : (w : Written) (x : List ℕ) → Braced w x → Brace w x
    brace-says w x h =
        let p = h.then.then in let q = p.then in
        let text : x ≡ word hidden (ConSymbol h.one) ++ 32 ∷ 58 ∷ 32 ∷ (type_text hidden p.one ++ 125 ∷ []) =
        h.is ∙ (λ i. h.says.text i ++ (after-text (codes " : ") (Constant_type h.one) w h.back h.then
        ∙ ap (λ z. 32 ∷ 58 ∷ 32 ∷ z) (p.is ∙ (λ j. p.says.text j ++ q.says j))) i) in
        subst (λ z. Brace z x) (sym q.is) (record {
          text = ap (λ z. 123 ∷ z) (text
              ∙ sym (four (word hidden (ConSymbol h.one)) (32 ∷ 58 ∷ 32 ∷ []) (type_text hidden p.one) (125 ∷ [])));
          fine = (h.says.named, p.says.named);
          within = let k = p.says.within in omega (arith, k);
        })

    behind_brace : {x y : List ℕ} → 123 ∷ x ≡ 123 ∷ y → x ≡ y
    behind_brace e = cc

    says-brace : (w : Written) (x : List ℕ) → Brace w x → Braced w x
    says-brace (Place []) x h = let f = h.fine in cc
    says-brace (Place (b ∷ z)) x h = let k = and_parts (is_letter b) (list_all is_inner z) h.fine in
        absurd (other_byte b 123 z x (differs is_letter 123 b refl k.0) (sym h.text))
    says-brace (FreeAs n t) x h = absurd (other_byte 123 40 x _ refl h.text)
    says-brace (ConAs n t) x h =
        let text : x ≡ word hidden (ConSymbol n) ++ 32 ∷ 58 ∷ 32 ∷ (type_text hidden t ++ 125 ∷ []) =
        behind_brace (h.text ∙ ap (λ z. 123 ∷ z)
        (four (word hidden (ConSymbol n)) (32 ∷ 58 ∷ 32 ∷ []) (type_text hidden t) (125 ∷ []))) in
        let ty : Constant_type n (ConAs n t) (type_text hidden t ++ 125 ∷ []) =
        record {
          one = t;
          front = type_text hidden t;
          back = 125 ∷ [];
          says = record { text = refl; named = h.fine.1; within = let k = h.within in omega (arith, k) };
          then =
              record { from = tt; says = refl; is = refl };
          is = refl;
        } in
        record {
          one = n;
          front = word hidden (ConSymbol n);
          back = 32 ∷ 58 ∷ 32 ∷ (type_text hidden t ++ 125 ∷ []);
          says = record { named = h.fine.0; text = refl };
          then = after-some (codes " : ") (Constant_type n) _ _ ty;
          is = text;
        }
    says-brace (Equal a b) x h = absurd (other_byte 123 40 x _ refl h.text)
    says-brace (Infix o a b) x h = absurd (other_byte 123 40 x _ refl h.text)
    says-brace (Applied f a more) x h = absurd (other_byte 123 40 x _ refl h.text)
    says-brace (Binding x0 t a) x h = absurd (other_byte 123 40 x _ refl h.text)

    pub brace-reads : Reads Brace Any (braced_at constant_at type term)
    brace-reads = told Braced Brace Any (braced_at constant_at type term)
        (braced-reads hidden m constant_at type term hc hy ht) brace-says says-brace
