-- The laws of several parts, each from its lemmas.
use Rattle.std.proofs.Common.{List, ◌++◌, refl, ap, ◌∙◌}
use Rattle.ot_logic.specs.Trees.{Alphabet, Sequent, Definition}
use Rattle.ot_logic.specs.Hol.{as_equation}
use Rattle.ot_logic.specs.NamedTerms.{distinct_named, parts}
use Rattle.ot_logic.proofs.TableLemmas.{Extends-append}
use Rattle.ot_laws.specs.Laws.{TestsDecide, HypothesesAreSets, SizeCountsParts}
use Rattle.ot_laws.specs.Laws.{Growth, TermRulesAreSound, RulesAreSound}
use Rattle.ot_laws.proofs.Tests.{Tells, same_ty-is, same_var-is, same_tm-is, same_named-is}
use Rattle.ot_laws.proofs.Tests.{has_type-is, is_free-is, is_free_in_some-is}
use Rattle.ot_laws.proofs.Equations.{as_equation-some, as_equation-equation}
use Rattle.ot_laws.proofs.Hypotheses.{is_in-is, same_sequent-is, same_set-union, distinct-union, IsMember-minus}
use Rattle.ot_laws.proofs.Hypotheses.{IsMember-minus_back, distinct-minus, same_set-once_each, distinct-once_each}
use Rattle.ot_laws.proofs.Size.{remembered-size, same_set-distinct_named, distinct-distinct_named}
use Rattle.ot_laws.proofs.Grown.{grown-derivable, grown-accepted, accepted-nil, accepted-push}
use Rattle.ot_laws.proofs.Steps.{op_rule-ok, app_rule-ok, abs_rule-ok}
use Rattle.ot_laws.proofs.Sound.{refl_rule-sound, assume_rule-sound, eq_mp_rule-sound, abs_thm_rule-sound}
use Rattle.ot_laws.proofs.Sound.{app_thm_rule-sound, deduct_antisym_rule-sound, beta_conv_rule-sound}
use Rattle.ot_laws.proofs.Sound.{subst_rule-sound, sym_rule-sound, trans_rule-sound, prove_hyp_rule-sound}
use Rattle.ot_logic.proofs.Results.{if_ok}

pub growth : {N : Type 0} (alphabet : Alphabet N) → Growth alphabet
growth alphabet = record {
  derivable = λ al bl dl el g p d. grown-derivable alphabet (Extends-append al bl) (Extends-append dl el) d;
  accepted = λ al bl dl a. grown-accepted alphabet al (al ++ bl) dl (Extends-append al bl) a;
  none = accepted-nil alphabet;
  next = accepted-push alphabet;
}

module _ {N : Type 0} (alphabet : Alphabet N) (tells : Tells alphabet) where
  pub tests_decide : TestsDecide alphabet
  tests_decide = record {
    types = same_ty-is alphabet tells;
    variables = same_var-is alphabet tells;
    terms = same_tm-is alphabet tells;
    named_terms = same_named-is alphabet tells;
    typings = has_type-is alphabet tells;
    frees = is_free-is alphabet tells;
    frees_in_some = is_free_in_some-is alphabet tells;
    members = is_in-is alphabet tells;
    sequents = same_sequent-is alphabet tells;
    equations = λ t ty a b. (
      as_equation-some alphabet tells t ty a b,
      λ e. ap (as_equation alphabet) e
          ∙ as_equation-equation alphabet tells ty a b,
    );
  }

  pub hypotheses_are_sets : HypothesesAreSets alphabet
  hypotheses_are_sets = record {
    union_members = same_set-union alphabet tells;
    union_once = distinct-union alphabet tells;
    minus_members =
        λ x y g. (IsMember-minus alphabet tells x y g, λ p. IsMember-minus_back alphabet tells x y g p.0 p.1);
    minus_once = distinct-minus alphabet tells;
    each_members = same_set-once_each alphabet tells;
    each_once = distinct-once_each alphabet tells;
  }

  pub size_counts_parts : SizeCountsParts alphabet
  size_counts_parts = record {
    most = remembered-size alphabet tells;
    reached =
        λ t. (
          distinct_named alphabet (parts alphabet t),
          distinct-distinct_named alphabet tells (parts alphabet t),
          same_set-distinct_named alphabet tells (parts alphabet t),
          refl,
        );
  }

  pub term_rules_are_sound : TermRulesAreSound alphabet
  term_rules_are_sound = record {
    op = λ n ts. if_ok _ _ (op_rule-ok alphabet tells n ts);
    app = λ f x. if_ok _ _ (app_rule-ok alphabet tells f x);
    abs = λ v b w. if_ok _ _ (λ t. abs_rule-ok alphabet tells v b t w);
  }

  pub rules_are_sound : (al : List (Sequent N)) (dl : List (Definition N)) → RulesAreSound alphabet al dl
  rules_are_sound al dl = record {
    refl = λ t w. if_ok _ _ (λ q. refl_rule-sound alphabet tells al dl t q w);
    assume = λ p. if_ok _ _ (assume_rule-sound alphabet tells al dl p);
    eq_mp = λ lower top a b. if_ok _ _ (λ q. eq_mp_rule-sound alphabet tells al dl lower top q a b);
    abs_thm = λ v th a. if_ok _ _ (λ q. abs_thm_rule-sound alphabet tells al dl v th q a);
    app_thm = λ lower top a b. if_ok _ _ (λ q. app_thm_rule-sound alphabet tells al dl lower top q a b);
    deduct_antisym = λ lower top a b. if_ok _ _ (λ q. deduct_antisym_rule-sound alphabet tells al dl lower top q a b);
    beta_conv = λ t w. if_ok _ _ (λ q. beta_conv_rule-sound alphabet tells al dl t q w);
    subst = λ s m th w a. if_ok _ _ (λ q. subst_rule-sound alphabet tells al dl s m th q w a);
    sym = λ th a. if_ok _ _ (λ q. sym_rule-sound alphabet tells al dl th q a);
    trans = λ lower top a b. if_ok _ _ (λ q. trans_rule-sound alphabet tells al dl lower top q a b);
    prove_hyp = λ lower top a b. if_ok _ _ (λ q. prove_hyp_rule-sound alphabet tells al dl lower top q a b);
  }
