use Rattle.std.proofs.Common.{◌≡◌, ◌<◌, ◌^◌, take, true}
use Rattle.std.specs.Char.{is_ascii_digit}
use Rattle.std.specs.List.{list_all}
use Rattle.std.specs.Str.Parse.{digits_value}
use Rattle.ot_scan.specs.Words.{IsCapped}
use Rattle.ot_scan.proofs.words.exact_value.Given as goal

abbrev pub invariant-loop-byte : goal.invariant-loop-byte
invariant-loop-byte l = record {
  all : list_all is_ascii_digit (take l.byte-index l.digits) ≡ true;
  capped : IsCapped (digits_value 10 (take l.byte-index l.digits)) l.value;
  small : l.value < 10 ^ l.byte-index;
}
