-- Lines of the replay script's page and near them, by the definition alone. Assumes nothing.
use mathlib.Core.Bool.{true, false}
use mathlib.Core.List.{[], ◌∷◌}
use mathlib.Core.Path.{◌≡◌, refl}
use Rattle.choice.specs.Choice.{pick, less, same, said}
use Rattle.control.specs.declared.Control.TheVariants.{Request}
use Rattle.control.specs.declared.Service.TheVariants.{SdnHigh}
use Rattle.control.specs.Control.{bit, fc}
use Rattle.std.specs.Prelude.{None, Some}
use Rattle.frame.specs.Reading.{shown as data_of}
use Rattle.frame.specs.Access.{point_of}
use Rattle.ring.specs.Ring.{member}
use Rattle.typed.specs.Digits.{glyph, hex_of, shown}
use Rattle.printed.specs.Numeral.{digit, numeral_in, numeral}
use Rattle.printed.specs.Printed.{service_word, priority_word, status_word, point_word, refused_line, sending, ends}
use Rattle.printed.specs.Printed.{indicating, done_line, referring, collected_line, joined}

-- "ok send 75 1007026D7616"
pub a-request-sent : done_line 75 (16 ∷ (7 ∷ (2 ∷ (109 ∷ (118 ∷ (22 ∷ [])))))) None [] ≡
    (111 ∷ (107 ∷ (32 ∷ (115 ∷ (101 ∷ (110 ∷ (100 ∷
    (32 ∷ (55 ∷ (53 ∷ (32 ∷ (49 ∷ (48 ∷ (48 ∷
    (55 ∷ (48 ∷ (50 ∷ (54 ∷ (68 ∷ (55 ∷ (54 ∷ (49 ∷ (54 ∷ (10 ∷ []))))))))))))))))))))))))
unfolding pick less same said digit numeral_in numeral glyph hex_of shown data_of bit fc point_of member service_word
    priority_word status_word point_word refused_line sending ends indicating done_line referring collected_line joined
a-request-sent = refl

-- "ok"
pub nothing-sent : done_line 0 [] None [] ≡ (111 ∷ (107 ∷ (10 ∷ [])))
unfolding pick less same said digit numeral_in numeral glyph hex_of shown data_of bit fc point_of member service_word
    priority_word status_word point_word refused_line sending ends indicating done_line referring collected_line joined
nothing-sent = refl

-- "ok indicate sdn high 127 5 60 - 01FF", of the data of a frame, and nothing sent
pub an-indication : done_line 0 [] (Some (record {
  head = record {
    destination = record { 0 = 127 };
    to = Some (record { 0 = 60 });
    source = record { 0 = 5 };
    from = None;
    control = Request SdnHigh false false;
  };
  part = record { start = 1; count = 2 };
})) (9 ∷ (1 ∷ (255 ∷ (9 ∷ [])))) ≡
    (111 ∷ (107 ∷ (32 ∷ (105 ∷ (110 ∷ (100 ∷ (105 ∷
    (99 ∷ (97 ∷ (116 ∷ (101 ∷ (32 ∷ (115 ∷ (100 ∷
    (110 ∷ (32 ∷ (104 ∷ (105 ∷ (103 ∷ (104 ∷ (32 ∷
    (49 ∷ (50 ∷ (55 ∷ (32 ∷ (53 ∷ (32 ∷ (54 ∷
    (48 ∷ (32 ∷ (45 ∷ (32 ∷ (48 ∷ (49 ∷ (70 ∷ (70 ∷ (10 ∷ [])))))))))))))))))))))))))))))))))))))
unfolding pick less same said digit numeral_in numeral glyph hex_of shown data_of bit fc point_of member service_word
    priority_word status_word point_word refused_line sending ends indicating done_line referring collected_line joined
an-indication = refl

-- "ok 0 srd 7 - - NA 2 -"
pub a-record : collected_line 0 (record {
  service = 12;
  destination = record { 0 = 7 };
  to = record { 0 = 255 };
  from
      = record { 0 = 255 };
  length = 0;
  status = 16;
  count = 2;
  reference = 0;
  limit = 1;
  asks = true;
}) (1 ∷ (2 ∷ (3 ∷ []))) ≡
    (111 ∷ (107 ∷ (32 ∷ (48 ∷ (32 ∷ (115 ∷ (114 ∷
    (100 ∷ (32 ∷ (55 ∷ (32 ∷ (45 ∷ (32 ∷ (45 ∷ (32 ∷ (78 ∷ (65 ∷ (32 ∷ (50 ∷ (32 ∷ (45 ∷ (10 ∷ []))))))))))))))))))))))
unfolding pick less same said digit numeral_in numeral glyph hex_of shown data_of bit fc point_of member service_word
    priority_word status_word point_word refused_line sending ends indicating done_line referring collected_line joined
a-record = refl

-- "ok 1 srd 7 - - NA 1 - ref 4711"
pub a-record-with-reference : collected_line 1 (record {
  service = 12;
  destination = record { 0 = 7 };
  to = record { 0 = 255 };
  from
      = record { 0 = 255 };
  length = 0;
  status = 16;
  count = 1;
  reference = 4711;
  limit = 0;
  asks = false;
}) [] ≡
    (111 ∷ (107 ∷ (32 ∷ (49 ∷ (32 ∷ (115 ∷ (114 ∷
    (100 ∷ (32 ∷ (55 ∷ (32 ∷ (45 ∷ (32 ∷ (45 ∷ (32 ∷ (78 ∷ (65 ∷ (32 ∷ (49 ∷ (32 ∷ (45 ∷ (32 ∷
    (114 ∷ (101 ∷ (102 ∷ (32 ∷ (52 ∷ (55 ∷ (49 ∷ (49 ∷ (10 ∷ [])))))))))))))))))))))))))))))))
unfolding pick less same said digit numeral_in numeral glyph hex_of shown data_of bit fc point_of member service_word
    priority_word status_word point_word refused_line sending ends indicating done_line referring collected_line joined
a-record-with-reference = refl

-- "refused 25"
pub a-refusal : refused_line 25 ≡ (114 ∷ (101 ∷ (102 ∷ (117 ∷ (115 ∷ (101 ∷ (100 ∷ (32 ∷ (50 ∷ (53 ∷ (10 ∷ [])))))))))))
unfolding pick less same said digit numeral_in numeral glyph hex_of shown data_of bit fc point_of member service_word
    priority_word status_word point_word refused_line sending ends indicating done_line referring collected_line joined
a-refusal = refl

-- "2,5", of seven addresses
pub the-masters : joined true 7 0 (0 ∷ (0 ∷ (1 ∷ (0 ∷ (0 ∷ (1 ∷ (0 ∷ []))))))) ≡ (50 ∷ (44 ∷ (53 ∷ [])))
unfolding pick less same said digit numeral_in numeral glyph hex_of shown data_of bit fc point_of member service_word
    priority_word status_word point_word refused_line sending ends indicating done_line referring collected_line joined
the-masters = refl

-- the greatest number
pub the-greatest : numeral 4294967295 ≡ (52 ∷ (50 ∷ (57 ∷ (52 ∷ (57 ∷ (54 ∷ (55 ∷ (50 ∷ (57 ∷ (53 ∷ []))))))))))
unfolding pick less same said digit numeral_in numeral glyph hex_of shown data_of bit fc point_of member service_word
    priority_word status_word point_word refused_line sending ends indicating done_line referring collected_line joined
the-greatest = refl
