-- Types between parentheses: their reader reads each such text, and halts where none goes on.
use Rattle.std.specs.Prelude.{◌≡◌, ◌≤◌, ℕ, zero, suc, ◌+◌, ◌-◌, ◌==◌, ◌||◌, ◌&&◌, not, Bool, true, false, cond, List}
use Rattle.std.specs.Prelude.{[], ◌∷◌, ◌++◌, length, codes, Some, None, is_some}
use Rattle.std.proofs.Common.{refl, sym, ◌∙◌, ap, subst, append_assoc, append-nil, length-append, inl, inr, eq-eqb}
use Rattle.std.proofs.Common.{arith, lit<}
use Rattle.std.proofs.lemmas.Bool.{eqb-true}
use Rattle.ot_logic.specs.Names.{Name, IsName, same_name, same_name-Decides}
use Rattle.ot_logic.specs.Naming.{names}
use Rattle.ot_logic.specs.Hol.{fun_ty}
use Rattle.ot_logic.specs.Trees.{Ty, Tys, TyVar, TyOp, NoTys, MoreTys, Symbol, OpSymbol}
use Rattle.ot_forms.specs.Words.{is_inner, is_letter, variable_word, word}
use Rattle.ot_text.specs.Texts.{is_function}
use Rattle.ot_forms.specs.Forms.{type_text, types_text, HasNames, HaveNames, most_open_type, most_open_types}
use Rattle.ot_forms.specs.Reading.{Reading, Got, Halted, next, mapped, kept, literal_at, operator_at, range_at}
use Rattle.ot_forms.specs.Reading.{further_at, arguments_at, operands_at, behind_word_at, inside_at, closed_type_at}
use Rattle.ot_forms.proofs.Readers.{Follows, Reads, Joined, Image, Kept, Extends, Begins, HasByte, Is, Any, Either}
use Rattle.ot_forms.proofs.Readers.{picked, join, told, mapped-reads, mapped-follows, kept-reads, pick, literal-reads}
use Rattle.ot_forms.proofs.Readers.{behind, at_byte, at_end, ends_here, unchanged, second-read, first-halted}
use Rattle.ot_forms.proofs.Readers.{same-reads, weaken}

-- a word ends before these bytes
abbrev pub ends_word : List ℕ → Bool
ends_word [] = true
ends_word (b ∷ s) = not (is_inner b || (b == 46))

abbrev pub IsEnd : List ℕ → Type 0
IsEnd r = ends_word r ≡ true

-- nor does a further argument begin
abbrev pub ends_arguments : List ℕ → Bool
ends_arguments [] = true
ends_arguments (b ∷ s) = not (is_inner b || (b == 46)) && not (b == 32)

abbrev pub IsLast : List ℕ → Type 0
IsLast r = ends_arguments r ≡ true

pub record SaysVariable (n : Name) (x : List ℕ) : Type 0 where
  pub named : IsName n
  pub text : x ≡ variable_word n

ends_at : (y r z : List ℕ) (b : ℕ) → y ≡ b ∷ z → ends_word (b ∷ []) ≡ true → ends_word (y ++ r) ≡ true
ends_at y r z b e h = ap (λ q. ends_word (q ++ r)) e ∙ h

-- a word's first byte
abbrev pub starts_word : ℕ → Bool
starts_word b = is_letter b || (b == 34)

pub differs : (p : ℕ → Bool) (k b : ℕ) → p k ≡ false → p b ≡ true → (b == k) ≡ false
differs p k b h e = go (b == k) refl where
  go : (t : Bool) → (b == k) ≡ t → t ≡ false
  go true q = let w : b ≡ k = eqb-true b k q in let z : p k ≡ true = subst (λ x. p x ≡ true) w e in cc
  go false q = refl

pub other_byte : (x y : ℕ) (xs ys : List ℕ) → (x == y) ≡ false → x ∷ xs ≡ y ∷ ys → ⊥
other_byte x y xs ys d p = let q : x ≡ y = cc in let t = eq-eqb x y q in cc

begins-more : (test : ℕ → Bool) (t : Bool) (x z y : List ℕ) → Begins test t x → y ≡ x ++ z → Begins test t y
begins-more test t x z y w e =
    record { byte = w.byte; rest = w.rest ++ z; is = e ∙ ap (λ q. q ++ z) w.is; tells = w.tells }

has_byte : (test : ℕ → Bool) (t : Bool) (x : List ℕ) → Begins test t x → HasByte x
has_byte test t x w = record { byte = w.byte; rest = w.rest; is = w.is }

-- an apostrophe or a parenthesis
abbrev opens_domain : ℕ → Bool
opens_domain b = (b == 39) || (b == 40)

-- the first byte of a type's text
abbrev starts_type : ℕ → Bool
starts_type b = (is_letter b || (b == 34)) || ((b == 39) || (b == 40))

module _ (hidden : List (Symbol Name)) where
  pub record SaysWord (n : Name) (x : List ℕ) : Type 0 where
    pub named : IsName n
    pub text : x ≡ word hidden (OpSymbol n)

  -- a type's text, with so many parentheses open at most
  pub record SaysType (n : ℕ) (t : Ty Name) (x : List ℕ) : Type 0 where
    pub text : x ≡ type_text hidden t
    pub named : HasNames t
    pub within : most_open_type t ≤ n

  -- the type that completes what nothing else does
  abbrev pub some_type : Ty Name
  some_type = TyVar (codes "a" ∷ [])

  pub some-says : (n : ℕ) → SaysType n some_type (codes "'a")
  some-says n = record { text = refl; named = lit< tt; within = omega arith }

  module _ (n : ℕ) (read : List ℕ → Reading (Ty Name)) (hr : Reads (SaysType n) IsEnd read) where
    -- ---- behind the domain of a function type: the arrow and the range
    pub record SaysRange (a t : Ty Name) (y : List ℕ) : Type 0 where
      pub range : Ty Name
      pub is : t ≡ fun_ty names a range
      pub text : y ≡ codes "-> " ++ type_text hidden range
      pub named : HasNames range
      pub within : most_open_type range ≤ n

    abbrev range_language : Ty Name → Ty Name → List ℕ → Type 0
    range_language a = Joined (Is (codes "-> ")) (λ _. Image (fun_ty names a) (SaysType n))

    range-reads : (a : Ty Name) → Reads (SaysRange a) IsEnd (range_at hidden read a)
    range-reads a = told (range_language a) (SaysRange a) IsEnd (range_at hidden read a)
        (join (Is (codes "-> ")) (λ _. Image (fun_ty names a) (SaysType n)) Any IsEnd (literal_at (codes "-> "))
        (λ _ r. mapped (fun_ty names a) (read r))
        (literal-reads (codes "-> ")) (λ _. mapped-reads (fun_ty names a) (SaysType n) IsEnd read hr)
        (λ _. (fun_ty names a some_type, codes "'a", record { from = some_type; says = some-says n; is = refl }))
        (λ _ _ _ _ _ _. tt))
        (λ t y w. record {
          range = w.then.from;
          is = w.then.is;
          text = w.is ∙ (λ i. w.says i ++ w.then.says.text i);
          named = w.then.says.named;
          within = w.then.says.within;
        })
        (λ t y w. record {
          one = tt;
          front = codes "-> ";
          back = type_text hidden w.range;
          says = refl;
          then = record {
            from = w.range;
            says = record { text = refl; named = w.named; within = w.within };
            is = w.is;
          };
          is = w.text;
        })

    -- ---- a space, and what goes on behind it
    abbrev Gap : (Ty Name → List ℕ → Type 0) → Ty Name → List ℕ → Type 0
    Gap Q = Joined (Is (codes " ")) (λ _. Q)

    gap-ends : (Q : Ty Name → List ℕ → Type 0) (t : Ty Name) (y r : List ℕ) → Gap Q t y → IsEnd (y ++ r)
    gap-ends Q t y r w = ends_at y r w.back 32 (w.is ∙ ap (λ z. z ++ w.back) w.says) refl

    -- ---- further arguments
    pub record SaysTypes (ts : Tys Name) (y : List ℕ) : Type 0 where
      pub text : y ≡ types_text hidden ts
      pub named : HaveNames ts
      pub within : most_open_types ts ≤ n

    abbrev more_at : List ℕ → Reading (Tys Name)
    more_at = further_at hidden read 0

    -- an argument and those after it
    abbrev argument_at : List ℕ → Reading (Tys Name)
    argument_at z = next (read z) (λ t r. mapped (MoreTys t) (more_at r))

    skip : (x r : List ℕ) → further_at hidden read (length x) (x ++ r) ≡ more_at r
    skip [] r = refl
    skip (b ∷ x) r = skip x r

    skip_read : (s x r : List ℕ) → s ≡ x ++ r → further_at hidden read (length s - length r) s ≡ more_at r
    skip_read s x r e =
        let k : length s - length r ≡ length x = let q : length s ≡ length x + length r = ap length e
        ∙ length-append x r in omega arith in
        (λ i. further_at hidden read (k i) (e i)) ∙ skip x r

    pub more-step : (b : ℕ) (z : List ℕ) → (b == 32) ≡ true → more_at (b ∷ z) ≡ argument_at z
    more-step b z e =
        ap (λ t. cond t (next (read z) (λ t r. mapped (MoreTys t) (further_at hidden read (length z - length r) z)))
        (Got NoTys (b ∷ z))) e ∙ go (read z) (hr.follows z) where
          go : (o : Reading (Ty Name)) → Follows (SaysType n) read z o
              → next o (λ t r. mapped (MoreTys t) (further_at hidden read (length z - length r) z))
              ≡ next o (λ t r. mapped (MoreTys t) (more_at r))
          go (Got t r) h = ap (mapped (MoreTys t)) (skip_read z h.text r h.is)
          go (Halted k r) h = refl

    types-end : (ts : Tys Name) (r : List ℕ) → IsLast r → IsEnd (types_text hidden ts ++ r)
    types-end NoTys [] e = refl
    types-end NoTys (b ∷ r) e = first_part (not (is_inner b || (b == 46))) (not (b == 32)) e where
      first_part : (p q : Bool) → (p && q) ≡ true → p ≡ true
      first_part true q h = refl
      first_part false q h = h
    types-end (MoreTys t ts) r e = refl

    last-stops : (r : List ℕ) → IsLast r → more_at r ≡ Got NoTys r
    last-stops [] e = refl
    last-stops (b ∷ r) e = go (b == 32) e where
      go : (t : Bool) → (not (is_inner b || (b == 46)) && not t) ≡ true
          → cond t (next (read r) (λ t q. mapped (MoreTys t) (further_at hidden read (length r - length q) r)))
          (Got NoTys (b ∷ r)) ≡ Got NoTys (b ∷ r)
      go true h = absurd (never (not (is_inner b || (b == 46))) h)
        where
          never : (p : Bool) → (p && false) ≡ true → ⊥
          never true h = cc
          never false h = cc
      go false h = refl

    more-complete : (ts : Tys Name) (y r : List ℕ) → SaysTypes ts y → IsLast r → more_at (y ++ r) ≡ Got ts r
    more-complete ts y r w e = ap (λ z. more_at (z ++ r)) w.text ∙ go ts w.named w.within where
      go : (ts : Tys Name) → HaveNames ts → most_open_types ts ≤ n → more_at (types_text hidden ts ++ r) ≡ Got ts r
      go NoTys h k = last-stops r e
      go (MoreTys t ts) h k =
          let one : SaysType n t (type_text hidden t) = record { text = refl; named = h.0; within = omega arith } in
          ap more_at (ap (λ z. 32 ∷ z) (append_assoc (type_text hidden t) (types_text hidden ts) r))
          ∙ more-step 32 (type_text hidden t ++ (types_text hidden ts ++ r)) refl
          ∙ ap (λ o. next o (λ t r. mapped (MoreTys t) (more_at r)))
          (hr.complete t (type_text hidden t) (types_text hidden ts ++ r) one (types-end ts r e))
          ∙ ap (mapped (MoreTys t)) (go ts h.1 (omega arith))

    abbrev Arguments : Tys Name → List ℕ → Type 0
    Arguments = Joined (SaysType n) (λ t. Image (MoreTys t) SaysTypes)

    argument-follows : (s : List ℕ) → ((r : List ℕ) → length r ≤ length s → Follows SaysTypes more_at r (more_at r))
        → Follows Arguments argument_at s (argument_at s)
    argument-follows s ih = go (read s) (hr.follows s) where
      go : (o : Reading (Ty Name)) → Follows (SaysType n) read s o
          → Follows Arguments argument_at s (next o (λ t r. mapped (MoreTys t) (more_at r)))
      go (Got t r) h = second-read (SaysType n) (λ t. Image (MoreTys t) SaysTypes) IsEnd IsLast read
          (λ t r. mapped (MoreTys t) (more_at r)) s t r h (mapped (MoreTys t) (more_at r))
          (mapped-follows SaysTypes (Image (MoreTys t) SaysTypes) more_at (MoreTys t)
          (λ a x p. record { from = a; says = p; is = refl }) r (more_at r)
          (ih r (let q : length s ≡ length h.text + length r = ap length h.is ∙ length-append h.text r in
          omega arith)))
      go (Halted k r) h = first-halted (SaysType n) (λ t. Image (MoreTys t) SaysTypes) IsEnd IsLast read
          (λ t r. mapped (MoreTys t) (more_at r))
          (λ t. (
            MoreTys t NoTys,
            [],
            record {
              from = NoTys;
              says = record { text = refl; named = tt; within = omega arith };
              is = refl;
            },
          )) s k r h

    -- a space before it
    spaced : (b : ℕ) (ts : Tys Name) (y : List ℕ) → b ≡ 32 → Arguments ts y → SaysTypes ts (b ∷ y)
    spaced b ts y e w = subst (λ us. SaysTypes us (b ∷ y)) (sym w.then.is) (record {
      text = (λ i. e i ∷ w.is i) ∙ ap (λ z. 32 ∷ z) (λ i. w.says.text i ++ w.then.says.text i);
      named = (w.says.named, w.then.says.named);
      within = let p = w.says.within in let q = w.then.says.within in omega (arith, p, q);
    })

    more-follows : (fuel : ℕ) (s : List ℕ) → length s ≤ fuel → Follows SaysTypes more_at s (more_at s)
    more-follows fuel [] h = ends_here SaysTypes more_at [] NoTys
        (record { text = refl; named = tt; within = omega arith }) (at_end (λ m. more_at m ≡ Got NoTys m) refl)
    more-follows zero (b ∷ s) h = absurd (omega arith)
    more-follows (suc fuel) (b ∷ s) h = go (λ r k. more-follows fuel r (omega arith)) (b == 32) refl where
      no_change : (o : Reading (Tys Name)) → Follows SaysTypes more_at (b ∷ s) (mapped (λ u. u) o)
          → Follows SaysTypes more_at (b ∷ s) o
      no_change (Got a r) h = h
      no_change (Halted k r) h = h

      go : ((r : List ℕ) → length r ≤ length s → Follows SaysTypes more_at r (more_at r)) → (t : Bool) → (b == 32) ≡ t
          → Follows SaysTypes more_at (b ∷ s) (more_at (b ∷ s))
      go ih true e = subst (Follows SaysTypes more_at (b ∷ s)) (sym (more-step b s e)) (no_change (argument_at s)
          (behind Arguments SaysTypes argument_at more_at (λ u. u) b
          (λ z. more-step b z e ∙ sym (unchanged (argument_at z))) (λ ts y w. spaced b ts y (eqb-true b 32 e) w) s
          (argument_at s) (argument-follows s ih)))
      go ih false e =
          subst (Follows SaysTypes more_at (b ∷ s)) (sym (stop s))
          (ends_here SaysTypes more_at (b ∷ s) NoTys (record { text = refl; named = tt; within = omega arith })
          (at_byte b s (λ m. more_at m ≡ Got NoTys m) stop))
        where
          stop : (t : List ℕ) → more_at (b ∷ t) ≡ Got NoTys (b ∷ t)
          stop t = ap
              (λ c. cond c (next (read t)
              (λ u r. mapped (MoreTys u) (further_at hidden read (length t - length r) t))) (Got NoTys (b ∷ t))) e

    more-reads : Reads SaysTypes IsLast more_at
    more-reads = record { complete = more-complete; follows = λ s. more-follows (length s) s (omega arith) }

    -- ---- an operator's arguments
    pub record SaysOperands (w : Name) (t : Ty Name) (y : List ℕ) : Type 0 where
      pub head : Ty Name
      pub tail : Tys Name
      pub is : t ≡ TyOp w (MoreTys head tail)
      pub text : y ≡ type_text hidden head ++ types_text hidden tail
      pub named : HaveNames (MoreTys head tail)
      pub within : most_open_types (MoreTys head tail) ≤ n
      pub fine : is_function names (TyOp w (MoreTys head tail)) ≡ false

    abbrev good : Name → Tys Name → Bool
    good w ts = not (is_function names (TyOp w ts))

    arguments-reads : Reads Arguments IsLast (arguments_at hidden read)
    arguments-reads = join (SaysType n) (λ t. Image (MoreTys t) SaysTypes) IsEnd IsLast read
        (λ t r. mapped (MoreTys t) (more_at r)) hr
        (λ t. mapped-reads (MoreTys t) SaysTypes IsLast more_at more-reads)
        (λ t. (
          MoreTys t NoTys,
          [],
          record { from = NoTys; says = record { text = refl; named = tt; within = omega arith }; is = refl },
        ))
        (λ t b y r w e. subst (λ z. IsEnd (z ++ r)) (sym w.says.text) (types-end w.from r e))

    -- two arguments of a function type go on to three
    extend : (w : Name) (ts : Tys Name) (x : List ℕ) → Arguments ts x → Extends Arguments (good w) x
    extend w ts x h = go (good w ts) refl where
      third : (us : Tys Name) → h.then.from ≡ us → good w (MoreTys h.one us) ≡ false → Extends Arguments (good w) x
      third NoTys e q = cc
      third (MoreTys u NoTys) e q =
          let us : Tys Name = MoreTys u (MoreTys some_type NoTys) in
          let p : HaveNames (MoreTys u NoTys) = subst HaveNames e h.then.says.named in
          let k : most_open_types (MoreTys u NoTys) ≤ n = subst (λ z. most_open_types z ≤ n) e h.then.says.within in
          record {
            value = MoreTys h.one us;
            more = codes " 'a";
            says = record {
              one = h.one;
              front = h.front;
              back = h.back ++ codes " 'a";
              says = h.says;
              then = record {
                from = us;
                says = record {
                  text = ap (λ z. z ++ codes " 'a") (h.then.says.text ∙ ap (types_text hidden) e)
                      ∙ ap (λ z. 32 ∷ z) (append_assoc (type_text hidden u) [] (codes " 'a"));
                  named = (p.0, (lit< tt, tt));
                  within = omega (arith, k);
                };
                is = refl;
              };
              is = ap (λ z. z ++ codes " 'a") h.is ∙ append_assoc h.front h.back (codes " 'a");
            };
            fine = refl;
          }
      third (MoreTys u (MoreTys v us)) e q = cc

      go : (t : Bool) → good w ts ≡ t → Extends Arguments (good w) x
      go true q = record { value = ts; more = []; says = subst (Arguments ts) (sym (append-nil x)) h; fine = q }
      go false q = third h.then.from refl (ap (good w) (sym h.then.is) ∙ q)

    operands-reads : (w : Name) → Reads (SaysOperands w) IsLast (operands_at hidden read w)
    operands-reads w = told (Image (TyOp w) (Kept Arguments (good w))) (SaysOperands w) IsLast
        (operands_at hidden read w)
        (mapped-reads (TyOp w) (Kept Arguments (good w)) IsLast (λ s. kept (good w) (arguments_at hidden read s))
        (kept-reads Arguments IsLast (arguments_at hidden read) (good w) (extend w) arguments-reads))
        (λ t y h. let k = h.says.says in record {
          head = k.one;
          tail = k.then.from;
          is = h.is ∙ ap (TyOp w) k.then.is;
          text = k.is ∙ (λ i. k.says.text i ++ k.then.says.text i);
          named = (k.says.named, k.then.says.named);
          within = let p = k.says.within in let q = k.then.says.within in omega (arith, p, q);
          fine = flip (is_function names (TyOp w (MoreTys k.one k.then.from)))
              (ap (good w) (sym k.then.is) ∙ h.says.fine);
        })
        (λ t y h. record {
          from = MoreTys h.head h.tail;
          says = record {
            says = record {
              one = h.head;
              front = type_text hidden h.head;
              back = types_text hidden h.tail;
              says = record { text = refl; named = h.named.0; within = let q = h.within in omega (arith, q) };
              then = record {
                from = h.tail;
                says = record { text = refl; named = h.named.1; within = let q = h.within in omega (arith, q) };
                is = refl;
              };
              is = h.text;
            };
            fine = ap not h.fine;
          };
          is = h.is;
        })
      where
        flip : (b : Bool) → not b ≡ true → b ≡ false
        flip true h = cc
        flip false h = refl

    module _ (wr : Reads SaysWord IsEnd (operator_at hidden))
        (wf : (w : Name) → IsName w → Begins starts_word true (word hidden (OpSymbol w))) where
      starts : (t : Ty Name) → HasNames t → Begins starts_type true (type_text hidden t)
      starts (TyVar v) h = record { byte = 39; rest = variable_word v; is = refl; tells = refl }
      starts (TyOp w NoTys) h = let k = wf w h.0 in
          record {
            byte = k.byte;
            rest = k.rest;
            is = k.is;
            tells = ap (λ z. z || ((k.byte == 39) || (k.byte == 40)))
                k.tells;
          }
      starts (TyOp w (MoreTys a ts)) h = go (is_function names (TyOp w (MoreTys a ts))) where
        go : (b : Bool)
            → Begins starts_type true
            (cond b (codes "(" ++ type_text hidden a ++ codes " ->" ++ types_text hidden ts ++ codes ")")
            (codes "(" ++ word hidden (OpSymbol w) ++ types_text hidden (MoreTys a ts) ++ codes ")"))
        go true = record { byte = 40; rest = _; is = refl; tells = refl }
        go false = record { byte = 40; rest = _; is = refl; tells = refl }

      -- ---- behind an operator's word: an arrow, or arguments
      abbrev is_dash : ℕ → Bool
      is_dash b = b == 45

      abbrev Behind : Name → Ty Name → List ℕ → Type 0
      Behind w = Either (SaysRange (TyOp w NoTys)) (SaysOperands w) IsLast (range_at hidden read (TyOp w NoTys))
          (operands_at hidden read w) is_dash

      range-byte : (a t : Ty Name) (y : List ℕ) → SaysRange a t y → Begins is_dash true y
      range-byte a t y h = record { byte = 45; rest = _; is = h.text; tells = refl }

      operands-byte : (w : Name) (t : Ty Name) (y : List ℕ) → SaysOperands w t y → Begins is_dash false y
      operands-byte w t y h =
          let k = starts h.head h.named.0 in
          record {
            byte = k.byte;
            rest = k.rest ++ types_text hidden h.tail;
            is = h.text
                ∙ ap (λ q. q ++ types_text hidden h.tail) k.is;
            tells = differs starts_type 45 k.byte refl k.tells;
          }

      last-end : (r : List ℕ) → IsLast r → IsEnd r
      last-end r e = types-end NoTys r e

      some-range : (a : Ty Name) → SaysRange a (fun_ty names a some_type) (codes "-> 'a")
      some-range a = record { range = some_type; is = refl; text = refl; named = lit< tt; within = omega arith }

      behind-some : (w : Name) → Behind w (fun_ty names (TyOp w NoTys) some_type) (codes "-> 'a")
      behind-some w = inl (some-range (TyOp w NoTys), range-byte (TyOp w NoTys) _ _ (some-range (TyOp w NoTys)))

      behind-reads : (w : Name) → Reads (Behind w) IsLast (behind_word_at hidden read w)
      behind-reads w =
          same-reads (Behind w) IsLast
          (picked (SaysRange (TyOp w NoTys)) (SaysOperands w) IsLast (range_at hidden read (TyOp w NoTys))
          (operands_at hidden read w) is_dash) (behind_word_at hidden read w) same
          (pick (SaysRange (TyOp w NoTys)) (SaysOperands w) IsLast (range_at hidden read (TyOp w NoTys))
          (operands_at hidden read w) is_dash (fun_ty names (TyOp w NoTys) some_type) (codes "-> 'a")
          (behind-some w)
          (weaken (SaysRange (TyOp w NoTys)) IsEnd IsLast (range_at hidden read (TyOp w NoTys)) last-end
          (range-reads (TyOp w NoTys))) (operands-reads w)
          (λ t y h. has_byte is_dash true y (range-byte (TyOp w NoTys) t y h))
          (λ t y h. has_byte is_dash false y (operands-byte w t y h)))
        where
          same : (s : List ℕ) → behind_word_at hidden read w s ≡ picked (SaysRange (TyOp w NoTys)) (SaysOperands w)
              IsLast (range_at hidden read (TyOp w NoTys)) (operands_at hidden read w) is_dash s
          same [] = refl
          same (b ∷ s) = refl

      -- ---- between parentheses
      abbrev domain_at : List ℕ → Reading (Ty Name)
      domain_at s = next (read s) (λ a r. next (literal_at (codes " ") r) (λ _ q. range_at hidden read a q))

      abbrev worded_at : List ℕ → Reading (Ty Name)
      worded_at s =
          next (operator_at hidden s) (λ w r. next (literal_at (codes " ") r) (λ _ q. behind_word_at hidden read w q))

      abbrev Domain : Ty Name → List ℕ → Type 0
      Domain = Joined (SaysType n) (λ a. Gap (SaysRange a))

      abbrev Worded : Ty Name → List ℕ → Type 0
      Worded = Joined SaysWord (λ w. Gap (Behind w))

      gap-some : (Q : Ty Name → List ℕ → Type 0) (t : Ty Name) (y : List ℕ) → Q t y → Gap Q t (32 ∷ y)
      gap-some Q t y q = record { one = tt; front = codes " "; back = y; says = refl; then = q; is = refl }

      gap-last : (Q : Ty Name → List ℕ → Type 0) (g : List ℕ → Reading (Ty Name)) → Reads Q IsLast g → (t : Ty Name)
          (y : List ℕ) → Q t y → Reads (Gap Q) IsLast (λ r. next (literal_at (codes " ") r) (λ _ q. g q))
      gap-last Q g h t y q = join (Is (codes " ")) (λ _. Q) Any IsLast (literal_at (codes " ")) (λ _. g)
          (literal-reads (codes " ")) (λ _. h) (λ _. (t, y, q)) (λ _ _ _ _ _ _. tt)

      domain-reads : Reads Domain IsLast domain_at
      domain-reads = join (SaysType n) (λ a. Gap (SaysRange a)) IsEnd IsLast read
          (λ a r. next (literal_at (codes " ") r) (λ _ q. range_at hidden read a q)) hr
          (λ a. gap-last (SaysRange a) (range_at hidden read a)
          (weaken (SaysRange a) IsEnd IsLast (range_at hidden read a) last-end (range-reads a))
          (fun_ty names a some_type) (codes "-> 'a") (some-range a))
          (λ a. (fun_ty names a some_type, codes " -> 'a", gap-some (SaysRange a) _ _ (some-range a)))
          (λ a t y r w e. gap-ends (SaysRange a) t y r w)

      worded-reads : Reads Worded IsLast worded_at
      worded-reads = join SaysWord (λ w. Gap (Behind w)) IsEnd IsLast (operator_at hidden)
          (λ w r. next (literal_at (codes " ") r) (λ _ q. behind_word_at hidden read w q)) wr
          (λ w. gap-last (Behind w) (behind_word_at hidden read w) (behind-reads w)
          (fun_ty names (TyOp w NoTys) some_type) (codes "-> 'a") (behind-some w))
          (λ w. (fun_ty names (TyOp w NoTys) some_type, codes " -> 'a", gap-some (Behind w) _ _ (behind-some w)))
          (λ w t y r q e. gap-ends (Behind w) t y r q)

      abbrev Inside : Ty Name → List ℕ → Type 0
      Inside = Either Domain Worded IsLast domain_at worded_at opens_domain

      says-type : (t : Ty Name) → HasNames t → most_open_type t ≤ n → SaysType n t (type_text hidden t)
      says-type t h k = record { text = refl; named = h; within = k }

      domain-of : (a b : Ty Name) → HasNames a → HasNames b → most_open_type a ≤ n → most_open_type b ≤ n
          → Domain (fun_ty names a b) (type_text hidden a ++ 32 ∷ 45 ∷ 62 ∷ 32 ∷ type_text hidden b)
      domain-of a b ha hb ka kb = record {
        one = a;
        front = type_text hidden a;
        back = 32 ∷ 45 ∷ 62 ∷ 32 ∷ type_text hidden b;
        says = says-type a ha ka;
        then = gap-some (SaysRange a) (fun_ty names a b) (45 ∷ 62 ∷ 32 ∷ type_text hidden b)
            (record { range = b; is = refl; text = refl; named = hb; within = kb });
        is = refl;
      }

      domain-byte : (t : Ty Name) (y : List ℕ) → Domain t y → HasByte y
      domain-byte t y h = let k = starts h.one h.says.named in
          record { byte = k.byte; rest = k.rest ++ h.back; is = h.is ∙ ap (λ q. q ++ h.back) (h.says.text ∙ k.is) }

      worded-begins : (t : Ty Name) (y : List ℕ) → Worded t y → Begins opens_domain false y
      worded-begins t y h = let k = wf h.one h.says.named in record {
        byte = k.byte;
        rest = k.rest ++ h.back;
        is = h.is ∙ ap (λ q. q ++ h.back) (h.says.text ∙ k.is);
        tells = λ i. differs starts_word 39 k.byte refl k.tells i || differs starts_word 40 k.byte refl k.tells i;
      }

      function-inside : (a b : Ty Name) → HasNames a → HasNames b → most_open_type a ≤ n → most_open_type b ≤ n
          → Inside (fun_ty names a b) (type_text hidden a ++ 32 ∷ 45 ∷ 62 ∷ 32 ∷ type_text hidden b)
      function-inside (TyVar v) b ha hb ka kb =
          inl (domain-of (TyVar v) b ha hb ka kb, record { byte = 39; rest = _; is = refl; tells = refl })
      function-inside (TyOp w (MoreTys a ts)) b ha hb ka kb =
          inl (
            domain-of (TyOp w (MoreTys a ts)) b ha hb ka kb,
            begins-more opens_domain true
                (type_text hidden (TyOp w (MoreTys a ts))) (32 ∷ 45 ∷ 62 ∷ 32 ∷ type_text hidden b) _
                (go (is_function names (TyOp w (MoreTys a ts)))) refl,
          ) where
            go : (e : Bool)
                → Begins opens_domain true
                (cond e (codes "(" ++ type_text hidden a ++ codes " ->" ++ types_text hidden ts ++ codes ")")
                (codes "(" ++ word hidden (OpSymbol w) ++ types_text hidden (MoreTys a ts) ++ codes ")"))
            go true = record { byte = 40; rest = _; is = refl; tells = refl }
            go false = record { byte = 40; rest = _; is = refl; tells = refl }
      function-inside (TyOp w NoTys) b ha hb ka kb =
          let r : SaysRange (TyOp w NoTys) (fun_ty names (TyOp w NoTys) b) (45 ∷ 62 ∷ 32 ∷ type_text hidden b) =
          record { range = b; is = refl; text = refl; named = hb; within = kb } in
          let h : Worded (fun_ty names (TyOp w NoTys) b) (word hidden (OpSymbol w) ++ 32 ∷ 45 ∷ 62 ∷ 32 ∷ type_text hidden b) = record {
            one = w;
            front = word hidden (OpSymbol w);
            back = 32 ∷ 45 ∷ 62 ∷ 32 ∷ type_text hidden b;
            says = record { named = ha.0; text = refl };
            then = gap-some (Behind w) _ _ (inl (r, range-byte (TyOp w NoTys) _ _ r));
            is = refl;
          } in
          inr (h, worded-begins _ _ h)

      some-inside : Inside (fun_ty names some_type some_type) (codes "'a -> 'a")
      some-inside = function-inside some_type some_type (lit< tt) (lit< tt) (omega arith) (omega arith)

      inside-reads : Reads Inside IsLast (inside_at hidden read)
      inside-reads = same-reads Inside IsLast (picked Domain Worded IsLast domain_at worded_at opens_domain)
          (inside_at hidden read) same
          (pick Domain Worded IsLast domain_at worded_at opens_domain (fun_ty names some_type some_type)
          (codes "'a -> 'a") some-inside domain-reads worded-reads
          domain-byte (λ t y h. has_byte opens_domain false y (worded-begins t y h)))
        where
          same : (s : List ℕ) → inside_at hidden read s ≡ picked Domain Worded IsLast domain_at worded_at opens_domain
              s
          same [] = refl
          same (b ∷ s) = refl

      -- ---- a type behind its opening parenthesis
      abbrev Closed : Ty Name → List ℕ → Type 0
      Closed = Joined Inside (λ t. Image (λ _. t) (Is (codes ")")))

      function-text : (x y : List ℕ) → 40 ∷ ((x ++ 32 ∷ 45 ∷ 62 ∷ 32 ∷ y) ++ codes ")")
          ≡ codes "(" ++ x ++ codes " ->" ++ (codes " " ++ y ++ []) ++ codes ")"
      function-text x y = ap (λ z. 40 ∷ (z ++ 41 ∷ [])) (ap (λ z. x ++ 32 ∷ 45 ∷ 62 ∷ 32 ∷ z) (sym (append-nil y))
          ∙ sym (append_assoc x (32 ∷ 45 ∷ 62 ∷ []) (32 ∷ (y ++ []))))

      operator-text : (w : Name) (a : Ty Name) (ts : Tys Name) → is_function names (TyOp w (MoreTys a ts)) ≡ false
          → 40 ∷ ((word hidden (OpSymbol w) ++ 32 ∷ (type_text hidden a ++ types_text hidden ts)) ++ codes ")")
          ≡ type_text hidden (TyOp w (MoreTys a ts))
      operator-text w a ts e =
          sym (ap (λ b. cond b (codes "(" ++ type_text hidden a ++ codes " ->" ++ types_text hidden ts ++ codes ")")
          (codes "(" ++ word hidden (OpSymbol w) ++ types_text hidden (MoreTys a ts) ++ codes ")")) e)

      inside-says : (t : Ty Name) (x : List ℕ) → Inside t x → SaysType (suc n) t (40 ∷ (x ++ codes ")"))
      inside-says t x h = elim h [ inl d ↦ domain d.0 | inr w ↦ worded w.0 ] where
        function : (a b t : Ty Name) (x y : List ℕ) → t ≡ fun_ty names a b → x ≡ type_text hidden a ++ 32 ∷ 45 ∷ 62
            ∷ 32 ∷ type_text hidden b → HasNames a → HasNames b → most_open_type a ≤ n → most_open_type b ≤ n
            → SaysType (suc n) t (40 ∷ (x ++ codes ")"))
        function a b t x y e q ha hb ka kb = subst (λ z. SaysType (suc n) z (40 ∷ (x ++ codes ")"))) (sym e) (record {
          text = ap (λ z. 40 ∷ (z ++ codes ")")) q ∙ function-text (type_text hidden a) (type_text hidden b);
          named = (lit< tt, (ha, (hb, tt)));
          within = omega arith;
        })

        domain : Domain t x → SaysType (suc n) t (40 ∷ (x ++ codes ")"))
        domain d = let r = d.then.then in
            function d.one r.range t x [] r.is
            (d.is ∙ (λ i. d.says.text i ++ (d.then.is ∙ (λ j. d.then.says j ++ r.text j)) i)) d.says.named r.named
            d.says.within r.within

        worded : Worded t x → SaysType (suc n) t (40 ∷ (x ++ codes ")"))
        worded d = elim d.then.then [
          | inl p ↦ let r = p.0 in
              function (TyOp d.one NoTys) r.range t x [] r.is
              (d.is ∙ (λ i. d.says.text i ++ (d.then.is ∙ (λ j. d.then.says j ++ r.text j)) i)) (d.says.named, tt)
              r.named (omega arith) r.within
          | inr p ↦ let r = p.0 in subst (λ z. SaysType (suc n) z (40 ∷ (x ++ codes ")"))) (sym r.is) (record {
            text = ap (λ z. 40 ∷ (z ++ codes ")"))
                (d.is ∙ (λ i. d.says.text i ++ (d.then.is ∙ (λ j. d.then.says j ++ r.text j)) i))
                ∙ operator-text d.one r.head r.tail r.fine;
            named = (d.says.named, r.named);
            within = let k = r.within in omega (arith, k);
          })
        ]

      -- a function type, by its parts
      pub record IsFunction (w : Name) (a : Ty Name) (ts : Tys Name) : Type 0 where
        pub range : Ty Name
        pub name : w ≡ names.arrow
        pub tail : ts ≡ MoreTys range NoTys

      function-parts : (w : Name) (a : Ty Name) (ts : Tys Name) → is_function names (TyOp w (MoreTys a ts)) ≡ true
          → IsFunction w a ts
      function-parts w a NoTys e = cc
      function-parts w a (MoreTys b NoTys) e =
          record {
            range = b;
            name = (same_name-Decides w names.arrow).0 (some_cond (same_name w names.arrow) e);
            tail = refl;
          } where
            some_cond : (t : Bool) → is_some {T = Ty Name × Ty Name} (cond t (Some (a, b)) None) ≡ true → t ≡ true
            some_cond true h = refl
            some_cond false h = h
      function-parts w a (MoreTys b (MoreTys c ts)) e = cc

      closed-of : (t : Ty Name) (x : List ℕ) → Inside t x → Closed t (x ++ codes ")")
      closed-of t x h = record {
        one = t;
        front = x;
        back = codes ")";
        says = h;
        then =
            record { from = tt; says = refl; is = refl };
        is = refl;
      }

      operator-inside : (w : Name) (a : Ty Name) (ts : Tys Name) → IsName w → HaveNames (MoreTys a ts)
          → most_open_types (MoreTys a ts) ≤ n → is_function names (TyOp w (MoreTys a ts)) ≡ false
          → Inside (TyOp w (MoreTys a ts))
          (word hidden (OpSymbol w) ++ 32 ∷ (type_text hidden a ++ types_text hidden ts))
      operator-inside w a ts hw h k e =
          let o : SaysOperands w (TyOp w (MoreTys a ts)) (type_text hidden a ++ types_text hidden ts) =
          record { head = a; tail = ts; is = refl; text = refl; named = h; within = k; fine = e } in
          let d : Worded (TyOp w (MoreTys a ts)) (word hidden (OpSymbol w) ++ 32 ∷ (type_text hidden a ++ types_text hidden ts)) = record {
            one = w;
            front = word hidden (OpSymbol w);
            back = 32 ∷ (type_text hidden a ++ types_text hidden ts);
            says = record { named = hw; text = refl };
            then = gap-some (Behind w) _ _ (inr (o, operands-byte w _ _ o));
            is = refl;
          } in
          inr (d, worded-begins _ _ d)

      says-closed : (t : Ty Name) (x : List ℕ) → SaysType (suc n) t (40 ∷ x) → Closed t x
      says-closed (TyVar v) x h = absurd (other_byte 40 39 x _ refl h.text)
      says-closed (TyOp w NoTys) x h = let k = wf w h.named.0 in absurd (no_word k (h.text ∙ k.is)) where
        no_word : (k : Begins starts_word true (word hidden (OpSymbol w))) → 40 ∷ x ≡ k.byte ∷ k.rest → ⊥
        no_word k e = let q : k.byte ≡ 40 = cc in
            let z : starts_word 40 ≡ true = subst (λ b. starts_word b ≡ true) q k.tells in cc
      says-closed (TyOp w (MoreTys a ts)) x h = go (is_function names (TyOp w (MoreTys a ts))) refl where
        function : (w : Name) (a b : Ty Name) (us : Tys Name) → w ≡ names.arrow → us ≡ MoreTys b NoTys
            → HaveNames (MoreTys a us) → most_open_types (MoreTys a us) ≤ n
            → 40 ∷ x ≡ type_text hidden (TyOp w (MoreTys a us)) → Closed (TyOp w (MoreTys a us)) x
        function w a b us e f hn k q =
            let whole : TyOp w (MoreTys a us) ≡ fun_ty names a b = λ i. TyOp (e i) (MoreTys a (f i)) in
            let hn' : HaveNames (MoreTys a (MoreTys b NoTys)) = subst (λ z. HaveNames (MoreTys a z)) f hn in
            let k' : most_open_types (MoreTys a (MoreTys b NoTys)) ≤ n =
            subst (λ z. most_open_types (MoreTys a z) ≤ n) f k in
            let text : 40 ∷ x ≡ 40 ∷ ((type_text hidden a ++ 32 ∷ 45 ∷ 62 ∷ 32 ∷ type_text hidden b) ++ codes ")") = q
            ∙ ap (type_text hidden) whole ∙ sym (function-text (type_text hidden a) (type_text hidden b)) in
            let rest : x ≡ (type_text hidden a ++ 32 ∷ 45 ∷ 62 ∷ 32 ∷ type_text hidden b) ++ codes ")" = cc in
            let c : Closed (fun_ty names a b) _ = closed-of (fun_ty names a b) _
            (function-inside a b hn'.0 hn'.1.0 (omega (arith, k')) (omega (arith, k'))) in
            subst (λ z. Closed z x) (sym whole) (subst (Closed (fun_ty names a b)) (sym rest) c)

        go : (e : Bool) → is_function names (TyOp w (MoreTys a ts)) ≡ e → Closed (TyOp w (MoreTys a ts)) x
        go true e = let p = function-parts w a ts e in
            function w a p.range ts p.name p.tail h.named.1 (let k = h.within in omega (arith, k)) h.text
        go false e =
            let text : 40 ∷ x ≡ 40 ∷ ((word hidden (OpSymbol w) ++ 32 ∷ (type_text hidden a ++ types_text hidden ts)) ++ codes ")") = h.text ∙ sym (operator-text w a ts e) in
            let rest : x ≡ (word hidden (OpSymbol w) ++ 32 ∷ (type_text hidden a ++ types_text hidden ts)) ++ codes ")" = cc in
            subst (Closed (TyOp w (MoreTys a ts))) (sym rest)
            (closed-of _ _ (operator-inside w a ts h.named.0 h.named.1 (let k = h.within in omega (arith, k)) e))

      abbrev Opened : Ty Name → List ℕ → Type 0
      Opened t x = SaysType (suc n) t (40 ∷ x)

      closed-says : (t : Ty Name) (x : List ℕ) → Closed t x → SaysType (suc n) t (40 ∷ x)
      closed-says t x h =
          let s = inside-says h.one h.front h.says in
          let text : x ≡ h.front ++ codes ")" = h.is ∙ ap (λ z. h.front ++ z) h.then.says in
          let whole : SaysType (suc n) h.one (40 ∷ x) = subst (λ z. SaysType (suc n) h.one (40 ∷ z)) (sym text) s in
          subst (λ z. SaysType (suc n) z (40 ∷ x)) (sym h.then.is) whole

      pub closed-reads : Reads Opened Any (closed_type_at hidden read)
      closed-reads = told Closed Opened Any (closed_type_at hidden read)
          (join Inside (λ t. Image (λ _. t) (Is (codes ")"))) IsLast Any (inside_at hidden read)
          (λ t r. mapped (λ _. t) (literal_at (codes ")") r)) inside-reads
          (λ t. mapped-reads (λ _. t) (Is (codes ")")) Any (literal_at (codes ")")) (literal-reads (codes ")")))
          (λ t. (t, codes ")", record { from = tt; says = refl; is = refl }))
          (λ a b y r h e. ap (λ z. ends_arguments (z ++ r)) h.says))
          closed-says says-closed
