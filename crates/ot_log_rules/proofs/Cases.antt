-- The cases of a derivation, by the numbers of their sequents.
use Rattle.std.specs.Prelude.{◌≢◌, filter, not, is_some}
use Rattle.std.specs.List.{All, list_any}
use Rattle.std.proofs.Common.{◌≡◌, ℕ, Bool, true, false, List, [], ◌∷◌, ◌++◌, nat_eq, Option}
use Rattle.std.proofs.Common.{Some, None, Result, Ok, Err, refl, sym, ap, ◌∙◌, subst}
use Rattle.std.proofs.lemmas.List.Elements.{All-nil, All-cons, All-append, All-filter}
use Rattle.ot_logic.specs.Names.{Name}
use Rattle.ot_logic.specs.Naming.{names}
use Rattle.ot_logic.specs.Trees.{Ty, Tm, Free, Con, Bound, App, Abs, Variable, Sequent}
use Rattle.ot_logic.specs.Hol.{fun_ty, bool_ty, as_fun_ty, type_in, type_of, same_ty, same_tm, close}
use Rattle.ot_logic.specs.Hol.{opened, equation, as_equation, union, minus, is_free_in_some, sequent_of}
use Rattle.ot_logic.specs.Answers.{◌>>=◌, unless, some_or}
use Rattle.ot_logic.specs.Table.{Extends, IsInjective}
use Rattle.ot_laws.proofs.Typing.{type_of-is}
use Rattle.ot_log_format.specs.Tokens.{LogFault, BadStep}
use Rattle.ot_log_format.specs.Steps.{Step, is_well_typed, is_proposition, refl_step, assume_step}
use Rattle.ot_log_format.specs.Steps.{eq_mp_step, abs_thm_step, app_thm_step, deduct_antisym_step, beta_step}
use Rattle.ot_log_nodes.specs.Items.{Item, HasTerm, IsTerm, type_at, term_at}
use Rattle.ot_log_nodes.specs.Shapes.{IsFunction}
use Rattle.ot_log_nodes.specs.Typing.{IsTyping, HasTyping}
use Rattle.ot_log_nodes.specs.declared.table.typing.Typed.{Typed}
use Rattle.ot_log_nodes.proofs.MapLemmas.{same-types}
use Rattle.ot_log_nodes.proofs.ItemLemmas.{has-term, term-is, term-stays, still-term}
use Rattle.ot_log_rules.specs.Statements.{terms_at, sequent_at, HasStatement}
use Rattle.ot_log_rules.specs.Shapes.{IsApp, IsAbs, AreSides}
use Rattle.ot_log_rules.specs.declared.statement.Statement.{Statement}
use Rattle.ot_log_rules.specs.declared.shapes.Sides.{Sides}
use Rattle.ot_log_rules.proofs.Numbers.{from_not-true, from_not-false, same-terms, minus-numbers, union-numbers}
use Rattle.ot_log_rules.proofs.Staying.{terms-stay, still-terms}

-- the sides of a conclusion, and what comes after them
module _ (a : Sequent Name) (after : Ty Name × Tm Name × Tm Name → Step names) where
  pub no-sides : as_equation names a.concl ≡ None → (some_or BadStep (as_equation names a.concl) >>= after)
      ≡ Err BadStep
  no-sides e = ap (λ o. some_or BadStep o >>= after) e

  pub with-sides : (p : Ty Name × Tm Name × Tm Name) → as_equation names a.concl ≡ Some p
      → (some_or BadStep (as_equation names a.concl) >>= after) ≡ after p
  with-sides p e = ap (λ o. some_or BadStep o >>= after) e

-- a condition, and what comes after it
pub refused : {A : Type 0} (b : Bool) (after : Unit {0} → Result A LogFault) → b ≡ false
    → (unless BadStep b >>= after) ≡ Err BadStep
refused b after e = ap (λ c. unless BadStep c >>= after) e

pub passed : {A : Type 0} (b : Bool) (after : Unit {0} → Result A LogFault) → b ≡ true → (unless BadStep b >>= after)
    ≡ after tt
passed b after e = ap (λ c. unless BadStep c >>= after) e

-- ---- t = t
pub ill-typed : (t : Tm Name) → type_in names [] t ≡ None → is_well_typed names t ≡ false
ill-typed t e = ap is_some e

pub well-typed : (ts : List Item) (t : Tm Name) (r : Typed) → HasTyping ts [] t r → is_well_typed names t ≡ true
well-typed ts t r h = ap is_some h.type

pub typed-as : (ts : List Item) (t : Tm Name) (r : Typed) → HasTyping ts [] t r → type_of names t ≡ type_at ts r.ty
typed-as ts t r h = type_of-is names t (type_at ts r.ty) h.type

pub refl-refused : (t : Tm Name) → type_in names [] t ≡ None → refl_step names t ≡ Err BadStep
refl-refused t e = refused (is_well_typed names t) (λ _. Ok (sequent_of names (equation names (type_of names t) t t)))
    (ill-typed t e)

-- a conclusion that was made in a table that grew
pub concluding : (ts : List Item) (q : Statement) (t : Tm Name) (id : ℕ) → q.hyps.items ≡ [] → q.concl ≡ id
    → IsTerm ts id t → HasStatement ts q × (sequent_at ts q ≡ sequent_of names t)
concluding ts q t id none same is =
    let tree : term_at ts q.concl ≡ t = ap (term_at ts) same ∙ term-is ts id t is in (
      record {
        hyps = subst (All (HasTerm ts)) (sym none) (All-nil (HasTerm ts));
        concl = subst (HasTerm ts) (sym same) (has-term ts id t is);
      },
      (λ i. record { hyps = terms_at ts (none i); concl = tree i }),
    )

pub refl-made : (ts us : List Item) (t : Tm Name) (r : Typed) (q : Statement) (id : ℕ) → HasTyping ts [] t r
    → q.hyps.items ≡ [] → q.concl ≡ id → IsTerm us id (equation names (type_at ts r.ty) t t)
    → HasStatement us q × (refl_step names t ≡ Ok (sequent_at us q))
refl-made ts us t r q id typing none same is =
    let c = concluding us q (equation names (type_at ts r.ty) t t) id none same is in (
      c.0,
      passed (is_well_typed names t) (λ _. Ok (sequent_of names (equation names (type_of names t) t t)))
          (well-typed ts t r typing)
          ∙ ap (λ ty. Ok (sequent_of names (equation names ty t t))) (typed-as ts t r typing)
          ∙ ap Ok (sym c.1),
    )

-- ---- {p} |- p
pub assume-refused : (p : Tm Name) (b : Bool) → b ≡ is_proposition names p → b ≡ false
    → assume_step names p ≡ Err BadStep
assume-refused p b e contrary = refused (is_proposition names p) (λ _. Ok (record { hyps = p ∷ []; concl = p }))
    (sym e ∙ contrary)

pub assume-made : (ts us : List Item) (e : Extends ts us) (p : ℕ) (b : Bool) (q : Statement) → HasTerm ts p
    → b ≡ is_proposition names (term_at ts p) → b ≡ true → q.hyps.items ≡ p ∷ [] → q.concl ≡ p
    → HasStatement us q × (assume_step names (term_at ts p) ≡ Ok (sequent_at us q))
assume-made ts us e p b q has test so hyps concl =
    let still = still-term ts us e p has in
    let tree : term_at us q.concl ≡ term_at ts p = ap (term_at us) concl ∙ term-stays ts us e p has in
    let trees : terms_at us q.hyps.items ≡ term_at ts p ∷ [] = ap (terms_at us) hyps
    ∙ ap (λ t. t ∷ []) (term-stays ts us e p has) in (
      record {
        hyps = subst (All (HasTerm us)) (sym hyps) (All-cons (HasTerm us) p [] still (All-nil (HasTerm us)));
        concl = subst (HasTerm us) (sym concl) still;
      },
      passed (is_proposition names (term_at ts p))
          (λ _. Ok (record { hyps = term_at ts p ∷ []; concl = term_at ts p })) (sym test ∙ so)
          ∙ (λ i. Ok (record { hyps = sym trees i; concl = sym tree i })),
    )

-- the hypotheses of two sequents
abbrev pub joined : List ℕ → List ℕ → List ℕ
joined g h = g ++ filter (λ t. not (list_any (λ u. nat_eq u t) g)) h

pub has-joined : (ts : List Item) (g h : List ℕ) → All (HasTerm ts) g → All (HasTerm ts) h
    → All (HasTerm ts) (joined g h)
has-joined ts g h a b = All-append (HasTerm ts) g (filter (λ t. not (list_any (λ u. nat_eq u t) g)) h) a
    (All-filter (λ t. not (list_any (λ u. nat_eq u t) g)) (HasTerm ts) h b)

-- ---- from p = q and p
module _ (ts : List Item) (one : IsInjective ts) (a b : Statement) (ha : HasStatement ts a)
    (hb : HasStatement ts b) where
  abbrev after_eq_mp : Ty Name × Tm Name × Tm Name → Step names
  after_eq_mp e = unless BadStep (same_tm names e.1 (term_at ts b.concl))
      >>= λ _. Ok (record { hyps = union names (terms_at ts a.hyps.items) (terms_at ts b.hyps.items); concl = e.2 })

  pub eq_mp-refused : as_equation names (term_at ts a.concl) ≡ None
      → eq_mp_step names (sequent_at ts a) (sequent_at ts b) ≡ Err BadStep
  eq_mp-refused e = no-sides (sequent_at ts a) after_eq_mp e

  pub eq_mp-other : (s : Sides) (d : Bool) → AreSides ts a.concl s → d ≡ not (nat_eq s.left b.concl) → d ≡ true
      → eq_mp_step names (sequent_at ts a) (sequent_at ts b) ≡ Err BadStep
  eq_mp-other s d h test so =
      with-sides (sequent_at ts a) after_eq_mp (type_at ts s.ty, term_at ts s.left, term_at ts s.right) h.is
      ∙ refused (same_tm names (term_at ts s.left) (term_at ts b.concl))
      (λ _. Ok (record {
        hyps = union names (terms_at ts a.hyps.items) (terms_at ts b.hyps.items);
        concl = term_at ts s.right;
      }))
      (same-terms ts one s.left b.concl h.left hb.concl ∙ from_not-true (nat_eq s.left b.concl) (sym test ∙ so))

  pub eq_mp-made : (s : Sides) (d : Bool) (q : Statement) → AreSides ts a.concl s → d ≡ not (nat_eq s.left b.concl)
      → d ≡ false → q.hyps.items ≡ joined a.hyps.items b.hyps.items → q.concl ≡ s.right
      → HasStatement ts q × (eq_mp_step names (sequent_at ts a) (sequent_at ts b) ≡ Ok (sequent_at ts q))
  eq_mp-made s d q h test contrary hyps concl =
      let trees : terms_at ts q.hyps.items ≡ union names (terms_at ts a.hyps.items) (terms_at ts b.hyps.items) =
      ap (terms_at ts) hyps ∙ union-numbers ts one a.hyps.items b.hyps.items ha.hyps hb.hyps in (
        record {
          hyps = subst (All (HasTerm ts)) (sym hyps) (has-joined ts a.hyps.items b.hyps.items ha.hyps hb.hyps);
          concl = subst (HasTerm ts) (sym concl) h.right;
        },
        with-sides (sequent_at ts a) after_eq_mp (type_at ts s.ty, term_at ts s.left, term_at ts s.right) h.is
            ∙ passed (same_tm names (term_at ts s.left) (term_at ts b.concl))
            (λ _. Ok (record {
              hyps = union names (terms_at ts a.hyps.items) (terms_at ts b.hyps.items);
              concl = term_at ts s.right;
            }))
            (same-terms ts one s.left b.concl h.left hb.concl
            ∙ from_not-false (nat_eq s.left b.concl) (sym test ∙ contrary))
            ∙ (λ i. Ok (record { hyps = sym trees i; concl = term_at ts (sym concl i) })),
      )

-- ---- from f = g and x = y
module _ (ts : List Item) (a b : Statement) where
  abbrev app_conclusion : Ty Name × Tm Name × Tm Name → Ty Name × Tm Name × Tm Name → Ty Name × Ty Name → Step names
  app_conclusion f x parts = unless BadStep (same_ty names parts.0 x.0)
      >>= λ _. Ok (record {
        hyps = union names (terms_at ts a.hyps.items) (terms_at ts b.hyps.items);
        concl = equation names parts.1 (App f.1 x.1) (App f.2 x.2);
      })

  abbrev app_parts : Ty Name × Tm Name × Tm Name → Ty Name × Tm Name × Tm Name → Step names
  app_parts f x = some_or BadStep (as_fun_ty names f.0) >>= app_conclusion f x

  abbrev app_arguments : Ty Name × Tm Name × Tm Name → Step names
  app_arguments f = some_or BadStep (as_equation names (term_at ts b.concl)) >>= app_parts f

  abbrev sides_at : Sides → Ty Name × Tm Name × Tm Name
  sides_at s = (type_at ts s.ty, term_at ts s.left, term_at ts s.right)

  pub app_thm-no_functions : as_equation names (term_at ts a.concl) ≡ None
      → app_thm_step names (sequent_at ts a) (sequent_at ts b) ≡ Err BadStep
  app_thm-no_functions e = no-sides (sequent_at ts a) app_arguments e

  pub app_thm-no_arguments : (f : Sides) → AreSides ts a.concl f → as_equation names (term_at ts b.concl) ≡ None
      → app_thm_step names (sequent_at ts a) (sequent_at ts b) ≡ Err BadStep
  app_thm-no_arguments f h e = with-sides (sequent_at ts a) app_arguments (sides_at f) h.is
      ∙ no-sides (sequent_at ts b) (app_parts (sides_at f)) e

  app_thm-at : (f x : Sides) → AreSides ts a.concl f → AreSides ts b.concl x
      → app_thm_step names (sequent_at ts a) (sequent_at ts b) ≡ app_parts (sides_at f) (sides_at x)
  app_thm-at f x h k = with-sides (sequent_at ts a) app_arguments (sides_at f) h.is
      ∙ with-sides (sequent_at ts b) (app_parts (sides_at f)) (sides_at x) k.is

  pub app_thm-no_function : (f x : Sides) → AreSides ts a.concl f → AreSides ts b.concl x → as_fun_ty names
      (type_at ts f.ty) ≡ None → app_thm_step names (sequent_at ts a) (sequent_at ts b) ≡ Err BadStep
  app_thm-no_function f x h k e = app_thm-at f x h k
      ∙ ap (λ o. some_or BadStep o >>= app_conclusion (sides_at f) (sides_at x)) e

  app_thm-parts : (f x : Sides) (from to : ℕ) → AreSides ts a.concl f → AreSides ts b.concl x
      → IsFunction ts f.ty from to → app_thm_step names (sequent_at ts a) (sequent_at ts b)
      ≡ app_conclusion (sides_at f) (sides_at x) (type_at ts from, type_at ts to)
  app_thm-parts f x from to h k fun = app_thm-at f x h k
      ∙ ap (λ o. some_or BadStep o >>= app_conclusion (sides_at f) (sides_at x)) fun.is

  pub app_thm-other : IsInjective ts → (f x : Sides) (from to : ℕ) (d : Bool) → AreSides ts a.concl f
      → AreSides ts b.concl x → IsFunction ts f.ty from to → d ≡ not (nat_eq from x.ty) → d ≡ true
      → app_thm_step names (sequent_at ts a) (sequent_at ts b) ≡ Err BadStep
  app_thm-other one f x from to d h k fun test so =
      app_thm-parts f x from to h k fun
      ∙ refused (same_ty names (type_at ts from) (type_at ts x.ty))
      (λ _. Ok (record {
        hyps = union names (terms_at ts a.hyps.items) (terms_at ts b.hyps.items);
        concl = equation names (type_at ts to) (App (term_at ts f.left) (term_at ts x.left))
            (App (term_at ts f.right) (term_at ts x.right));
      }))
      (same-types ts one from x.ty fun.from k.ty ∙ from_not-true (nat_eq from x.ty) (sym test ∙ so))

  pub app_thm-made : IsInjective ts → (us : List Item) → Extends ts us → HasStatement ts a → HasStatement ts b
      → (f x : Sides) (from to : ℕ) (d : Bool) (q : Statement) → AreSides ts a.concl f → AreSides ts b.concl x
      → IsFunction ts f.ty from to → d ≡ not (nat_eq from x.ty) → d ≡ false
      → q.hyps.items ≡ joined a.hyps.items b.hyps.items → (id : ℕ) → q.concl ≡ id
      → IsTerm us id (equation names (type_at ts to) (App (term_at ts f.left) (term_at ts x.left))
      (App (term_at ts f.right) (term_at ts x.right)))
      → HasStatement us q × (app_thm_step names (sequent_at ts a) (sequent_at ts b) ≡ Ok (sequent_at us q))
  app_thm-made one us e ha hb f x from to d q h k fun test contrary hyps id same is =
      let has = has-joined ts a.hyps.items b.hyps.items ha.hyps hb.hyps in
      let trees : terms_at us q.hyps.items ≡ union names (terms_at ts a.hyps.items) (terms_at ts b.hyps.items) =
      ap (terms_at us) hyps ∙ terms-stay ts us e (joined a.hyps.items b.hyps.items) has
      ∙ union-numbers ts one a.hyps.items b.hyps.items ha.hyps hb.hyps in
      let concl : term_at us q.concl ≡ equation names (type_at ts to) (App (term_at ts f.left) (term_at ts x.left))
      (App (term_at ts f.right) (term_at ts x.right)) =
      ap (term_at us) same ∙ term-is us id _ is in (
        record {
          hyps = subst (All (HasTerm us)) (sym hyps)
              (still-terms ts us e (joined a.hyps.items b.hyps.items) has);
          concl =
              subst (HasTerm us) (sym same) (has-term us id _ is);
        },
        app_thm-parts f x from to h k fun
            ∙ passed (same_ty names (type_at ts from) (type_at ts x.ty))
            (λ _. Ok (record {
              hyps = union names (terms_at ts a.hyps.items) (terms_at ts b.hyps.items);
              concl = equation names (type_at ts to) (App (term_at ts f.left) (term_at ts x.left))
                  (App (term_at ts f.right) (term_at ts x.right));
            }))
            (same-types ts one from x.ty fun.from k.ty ∙ from_not-false (nat_eq from x.ty) (sym test ∙ contrary))
            ∙ (λ i. Ok (record { hyps = sym trees i; concl = sym concl i })),
      )

  -- ---- from p and q
  pub deduct-made : IsInjective ts → (us : List Item) → Extends ts us → HasStatement ts a → HasStatement ts b
      → (q : Statement) → q.hyps.items ≡ joined (filter (λ u. not (nat_eq u b.concl)) a.hyps.items)
      (filter (λ u. not (nat_eq u a.concl)) b.hyps.items)
      → (id : ℕ) → q.concl ≡ id
      → IsTerm us id (equation names (bool_ty names) (term_at ts a.concl) (term_at ts b.concl))
      → HasStatement us q × (deduct_antisym_step names (sequent_at ts a) (sequent_at ts b) ≡ Ok (sequent_at us q))
  deduct-made one us e ha hb q hyps id same is =
      let left = filter (λ u. not (nat_eq u b.concl)) a.hyps.items in
      let right = filter (λ u. not (nat_eq u a.concl)) b.hyps.items in
      let has_left = All-filter (λ u. not (nat_eq u b.concl)) (HasTerm ts) a.hyps.items ha.hyps in
      let has_right = All-filter (λ u. not (nat_eq u a.concl)) (HasTerm ts) b.hyps.items hb.hyps in
      let has = has-joined ts left right has_left has_right in
      let minus_left = minus-numbers ts one b.concl a.hyps.items hb.concl ha.hyps in
      let minus_right = minus-numbers ts one a.concl b.hyps.items ha.concl hb.hyps in
      let trees : terms_at us q.hyps.items ≡ union names
      (minus names (term_at ts b.concl) (terms_at ts a.hyps.items))
      (minus names (term_at ts a.concl) (terms_at ts b.hyps.items)) =
      ap (terms_at us) hyps ∙ terms-stay ts us e (joined left right) has
      ∙ union-numbers ts one left right has_left has_right ∙ (λ i. union names (minus_left i) (minus_right i)) in
      let concl : term_at us q.concl ≡ equation names (bool_ty names) (term_at ts a.concl) (term_at ts b.concl) =
      ap (term_at us) same ∙ term-is us id _ is in (
        record {
          hyps = subst (All (HasTerm us)) (sym hyps) (still-terms ts us e (joined left right) has);
          concl = subst (HasTerm us) (sym same) (has-term us id _ is);
        },
        (λ i. Ok (record { hyps = sym trees i; concl = sym concl i })),
      )

-- ---- (\v. t) u
module _ (ts : List Item) (t : ℕ) where
  pub beta-no_app : ((f x : Tm Name) → term_at ts t ≢ App f x) → beta_step names (term_at ts t) ≡ Err BadStep
  beta-no_app h = by (term_at ts t) h
    where
      by : (e : Tm Name) → ((f x : Tm Name) → e ≢ App f x) → beta_step names e ≡ Err BadStep
      by (App f x) k = absurd (k f x refl)
      by (Free v) k = refl
      by (Con n ty) k = refl
      by (Bound j) k = refl
      by (Abs ty b) k = refl

  pub beta-no_abs : (f x : ℕ) → IsApp ts t f x → ((a : Ty Name) (b : Tm Name) → term_at ts f ≢ Abs a b)
      → beta_step names (term_at ts t) ≡ Err BadStep
  beta-no_abs f x app h = ap (beta_step names) app.is ∙ by (term_at ts f) h
    where
      by : (e : Tm Name) → ((a : Ty Name) (b : Tm Name) → e ≢ Abs a b) → beta_step names (App e (term_at ts x))
          ≡ Err BadStep
      by (Abs a b) k = absurd (k a b refl)
      by (Free v) k = refl
      by (Con n ty) k = refl
      by (Bound j) k = refl
      by (App g y) k = refl

  abbrev redex : ℕ → ℕ → ℕ → Tm Name
  redex a b x = App (Abs (type_at ts a) (term_at ts b)) (term_at ts x)

  redex-is : (f x a b : ℕ) → IsApp ts t f x → IsAbs ts f a b → term_at ts t ≡ redex a b x
  redex-is f x a b app abs = app.is ∙ ap (λ g. App g (term_at ts x)) abs.is

  abbrev beta_conclusion : ℕ → ℕ → ℕ → Unit {0} → Step names
  beta_conclusion a b x =
      λ _. Ok (sequent_of names
      (equation names (type_of names (redex a b x)) (redex a b x) (opened names (term_at ts b) (term_at ts x))))

  pub beta-ill_typed : (f x a b : ℕ) → IsApp ts t f x → IsAbs ts f a b → type_in names [] (term_at ts t) ≡ None
      → beta_step names (term_at ts t) ≡ Err BadStep
  beta-ill_typed f x a b app abs none =
      let is = redex-is f x a b app abs in
      ap (beta_step names) is ∙ refused (is_well_typed names (redex a b x)) (beta_conclusion a b x)
      (ill-typed (redex a b x) (sym (ap (type_in names []) is) ∙ none))

  pub beta-made : (us : List Item) (f x a b : ℕ) (r : Typed) (q : Statement) → IsApp ts t f x → IsAbs ts f a b
      → HasTyping us [] (term_at ts t) r → q.hyps.items ≡ [] → (vs : List Item) (id : ℕ) → q.concl ≡ id
      → IsTerm vs id (equation names (type_at us r.ty) (term_at ts t) (opened names (term_at ts b) (term_at ts x)))
      → HasStatement vs q × (beta_step names (term_at ts t) ≡ Ok (sequent_at vs q))
  beta-made us f x a b r q app abs typing none vs id same made =
      let is = redex-is f x a b app abs in
      let c = concluding vs q
      (equation names (type_at us r.ty) (term_at ts t) (opened names (term_at ts b) (term_at ts x))) id none same
      made in
      let typed : is_well_typed names (redex a b x) ≡ true = sym (ap (is_well_typed names) is)
      ∙ well-typed us (term_at ts t) r typing in
      let ty : type_of names (redex a b x) ≡ type_at us r.ty = sym (ap (type_of names) is)
      ∙ typed-as us (term_at ts t) r typing in (
        c.0,
        ap (beta_step names) is ∙ passed (is_well_typed names (redex a b x)) (beta_conclusion a b x) typed
            ∙ (λ i. Ok
            (sequent_of names (equation names (ty i) (sym is i) (opened names (term_at ts b) (term_at ts x)))))
            ∙ ap Ok (sym c.1),
      )

-- ---- from t = u, abstracted
module _ (ts : List Item) (v : Variable Name) (a : Statement) where
  abbrev abs_conclusion : Ty Name × Tm Name × Tm Name → Unit {0} → Step names
  abs_conclusion e =
      λ _. Ok (record {
        hyps = terms_at ts a.hyps.items;
        concl = equation names (fun_ty names v.ty e.0)
            (Abs v.ty (close names v e.1)) (Abs v.ty (close names v e.2));
      })

  abbrev after_abs : Ty Name × Tm Name × Tm Name → Step names
  after_abs e = unless BadStep (not (is_free_in_some names v (terms_at ts a.hyps.items))) >>= abs_conclusion e

  pub abs_thm-refused : as_equation names (term_at ts a.concl) ≡ None → abs_thm_step names v (sequent_at ts a)
      ≡ Err BadStep
  abs_thm-refused e = no-sides (sequent_at ts a) after_abs e

  pub abs_thm-free : (s : Sides) (b : Bool) → AreSides ts a.concl s → b ≡ is_free_in_some names v
      (terms_at ts a.hyps.items) → b ≡ true → abs_thm_step names v (sequent_at ts a) ≡ Err BadStep
  abs_thm-free s b h test so =
      with-sides (sequent_at ts a) after_abs (type_at ts s.ty, term_at ts s.left, term_at ts s.right) h.is
      ∙ refused (not (is_free_in_some names v (terms_at ts a.hyps.items)))
      (abs_conclusion (type_at ts s.ty, term_at ts s.left, term_at ts s.right)) (ap not (sym test ∙ so))

  pub abs_thm-made : (us : List Item) → Extends ts us → HasStatement ts a → (s : Sides) (b : Bool) (q : Statement)
      → AreSides ts a.concl s → b ≡ is_free_in_some names v (terms_at ts a.hyps.items) → b ≡ false
      → q.hyps.items ≡ a.hyps.items → (id : ℕ) → q.concl ≡ id
      → IsTerm us id
      (equation names (fun_ty names v.ty (type_at ts s.ty)) (Abs v.ty (close names v (term_at ts s.left)))
      (Abs v.ty (close names v (term_at ts s.right))))
      → HasStatement us q × (abs_thm_step names v (sequent_at ts a) ≡ Ok (sequent_at us q))
  abs_thm-made us e ha s b q h test contrary hyps id same is =
      let trees : terms_at us q.hyps.items ≡ terms_at ts a.hyps.items = ap (terms_at us) hyps
      ∙ terms-stay ts us e a.hyps.items ha.hyps in
      let concl : term_at us q.concl ≡ equation names (fun_ty names v.ty (type_at ts s.ty))
      (Abs v.ty (close names v (term_at ts s.left))) (Abs v.ty (close names v (term_at ts s.right))) =
      ap (term_at us) same ∙ term-is us id _ is in (
        record {
          hyps = subst (All (HasTerm us)) (sym hyps) (still-terms ts us e a.hyps.items ha.hyps);
          concl = subst (HasTerm us) (sym same) (has-term us id _ is);
        },
        with-sides (sequent_at ts a) after_abs (type_at ts s.ty, term_at ts s.left, term_at ts s.right) h.is
            ∙ passed (not (is_free_in_some names v (terms_at ts a.hyps.items)))
            (abs_conclusion (type_at ts s.ty, term_at ts s.left, term_at ts s.right))
            (ap not (sym test ∙ contrary))
            ∙ (λ i. Ok (record { hyps = sym trees i; concl = sym concl i })),
      )

-- ---- a typing that is none
pub no-typing : (us : List Item) (l : List (Ty Name)) (t : Tm Name) (o : Option Typed) → IsTyping us l t o
    → ((r : Typed) → o ≡ Some r → ⊥) → type_in names l t ≡ None
no-typing us l t None h other = h
no-typing us l t (Some r) h other = absurd (other r refl)
