-- What a reader is after each step: the same bytes, another place or end. Assumes nothing.
use Rattle.std.specs.Prelude.{ℕ, List, length}
use Rattle.std.specs.Borrow.{Bor}
use Rattle.base_conventions.specs.declared.Convention.{Convention}
use Rattle.sig_items.specs.Answer.{item_answer}
use Rattle.sig_reader.specs.declared.Reader.{Reader}
use Rattle.sig_stepping.specs.Step.{body_start, body_end, type_in, place_after}

-- at the first item of the whole signature
abbrev pub reader_started : Bor (List ℕ) → Reader
reader_started s = record { signature = s; at = 0; end = length s.now }

-- past the item
abbrev pub skipped : Reader → Reader
skipped r = record { signature = r.signature; at = body_end r.signature.now r.at r.end; end = r.end }

-- at the first item in the item's body, which is the part then
abbrev pub reader_entered : Reader → Reader
reader_entered r = record {
  signature = r.signature;
  at = body_start r.signature.now r.at r.end;
  end = body_end r.signature.now r.at r.end;
}

-- past the type item, unless it is refused
abbrev pub advanced : Convention → Reader → Reader
advanced c r = record {
  signature = r.signature;
  at = place_after (item_answer c (type_in c r.signature.now r.at r.end)) r.at;
  end = r.end;
}
