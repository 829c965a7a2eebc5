--- What the program takes at the most.

use Rattle.std.specs.Prelude.{ℕ}
use Rattle.ot_logic.specs.declared.limits.Limits.{Limits}

-- the most bytes of an article
abbrev pub article_limit : ℕ
article_limit = 4294967296

-- the most bytes of a theory file
abbrev pub theory_limit : ℕ
theory_limit = 1048576

-- the most packages inside each other
abbrev pub package_limit : ℕ
package_limit = 16

-- the most bytes of a summary
abbrev pub summary_limit : ℕ
summary_limit = 67108864

-- the most bytes of a written article, and of a proof log that is written
abbrev pub written_limit : ℕ
written_limit = 4294967296

-- the most bytes of a readable text
abbrev pub text_limit : ℕ
text_limit = 1048576

-- the most bytes of a list of packages
abbrev pub index_limit : ℕ
index_limit = 1048576

-- the limits of the program
abbrev pub standard_limits : Limits
standard_limits = record {
  article_bytes = article_limit;
  theory_bytes = theory_limit;
  package_depth = package_limit;
  summary_bytes = summary_limit;
  written_bytes = written_limit;
}
