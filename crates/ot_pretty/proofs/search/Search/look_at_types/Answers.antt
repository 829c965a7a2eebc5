use Rattle.std.proofs.Common.{◌∙◌, refl, arith, ap, sym, subst}
use Rattle.ot_laws.proofs.Sets.{same_set-self}
use Rattle.ot_logic.specs.Lists.{IsMember}
use Rattle.ot_type.proofs.SubtypeLemmas.{above, above-le, above-last}
use Rattle.ot_term.proofs.Walking.{no_more}
use Rattle.ot_pretty.specs.Found.{symbols_with}
use Rattle.ot_pretty.proofs.Finding.{types-below, looked-type, no-terms, reached-same}
use Rattle.ot_pretty.proofs.search.Search.look_at_types.Goals as goal
use Rattle.ot_logic.proofs.Members.{IsMember-last}

pub loop-id-init : goal.loop-id-init
loop-id-init c = (
  record { search = c.requires.search; symbols = same_set-self (symbols_with c.args.kernel.now c.args.self.now) },
  c.requires.no_terms,
)

pub look_at_type-requires : goal.look_at_type-requires
look_at_type-requires c =
    c.loop-id.invariant.0.search.types c.in-Some.id (subst (IsMember c.in-Some.id) (sym c.in-Some.ensures.removal)
    (IsMember-last c.in-Some.id c.pop_last.new.self.keys))

pub loop-id-smaller : goal.loop-id-smaller
loop-id-smaller c =
    let below = types-below c.args.kernel.now c.in-Some.id c.in-Some.ensures.all_below c.in_ok-look_at_type.ensures in
    omega (
      arith,
      above-le c.look_at_type.new.self.types.keys c.in-Some.id below,
      above-last c.pop_last.new.self.keys
          c.in-Some.id,
      ap above c.in-Some.ensures.removal,
    )

pub loop-id-preserved : goal.loop-id-preserved
loop-id-preserved c = (
  looked-type c.args.kernel.now c.args.self.now c.loop-id.self _ c.look_at_type.new.self c.in-Some.id
      c.loop-id.invariant.0 c.in-Some.ensures.removal refl refl c.in_ok-look_at_type.ensures,
  no-terms
      c.args.kernel.now c.loop-id.invariant.1 c.in_ok-look_at_type.ensures,
)

pub returns : goal.returns
returns c = record {
  reaches = reached-same c.args.kernel.now c.args.self.now c.loop-id.self _ refl c.in_default.ensures.unchanged refl
      c.loop-id.invariant.0;
  no_terms = c.loop-id.invariant.1;
  none = c.in_default.ensures.unchanged ∙ no_more c.loop-id.self.types.keys c.in_default.ensures.variant.1;
}
