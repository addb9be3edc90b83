-- Lines of the replay script's page and near them, by the definition alone. Assumes nothing.
use mathlib.Core.List.{[], ◌∷◌}
use mathlib.Core.Path.{◌≡◌, refl}
use Rattle.choice.specs.Choice.{pick, less, same, said}
use Rattle.typed.specs.Words.{spaces, letters, begins, ends, ahead, begin_of, begun, words_behind, word, equal}
use Rattle.typed.specs.Digits.{digit, all_digits, value_on, read_on, decimal, nibble, all_hex, dash}
use Rattle.typed.specs.Digits.{is_octets}
use Rattle.typed.specs.Lists.{entry, listed, closing, list_on, list}
use Rattle.typed.specs.Places.{either, queue, room, unserved, service, access, called, named, numbers, pair}
use Rattle.typed.specs.Places.{is_masters, is_points}
use Rattle.times.specs.Times.{standard}
use Rattle.typed_call.specs.Pairs.{tsdi_of, start_pairs, ref_of, limit_of, submit_pairs}
use Rattle.typed_call.specs.declared.script.Call.TheVariants.{Unknown, Start, Submit, Frame, Slot, Collect}
use Rattle.typed_call.specs.Script.{is_site, is_start, is_pointed, is_request, is_submit, is_heard, is_frame}
use Rattle.typed_call.specs.Script.{is_clocked, is_collect, plain_of, clocked_of, call_of}

-- in turn:
-- "start 20 0 20 400 1 10000 1 2 2,5 none,60,62 4 4"
-- "submit high srd 7 - - -"
-- "frame 100 0 - - DC0205"
-- "slot 600"
-- " collect  high "
-- "frame 100 0 - - DC020"
-- "show 1"
-- "slot 4294967296"
-- "start 20 0 20 400 1 10000 1 2 2,127 none 4 4"
-- "   "
pub lines : (call_of (115 ∷ (116 ∷ (97 ∷ (114 ∷ (116 ∷ (32 ∷ (50 ∷ (48 ∷ (32 ∷ (48 ∷ (32 ∷ (50 ∷ (48 ∷ (32 ∷ (52 ∷
    (48 ∷ (48 ∷ (32 ∷ (49 ∷ (32 ∷ (49 ∷ (48 ∷ (48 ∷ (48 ∷ (48 ∷ (32 ∷ (49 ∷ (32 ∷ (50 ∷ (32 ∷ (50 ∷ (44 ∷ (53 ∷
    (32 ∷ (110 ∷ (111 ∷ (110 ∷ (101 ∷ (44 ∷ (54 ∷ (48 ∷ (44 ∷ (54 ∷ (50 ∷ (32 ∷ (52 ∷ (32 ∷ (52 ∷
    [])))))))))))))))))))))))))))))))))))))))))))))))) ≡ Start)
    × (call_of (115 ∷ (117 ∷ (98 ∷ (109 ∷ (105 ∷ (116 ∷ (32 ∷ (104 ∷ (105 ∷ (103 ∷ (104 ∷ (32 ∷ (115 ∷ (114 ∷ (100 ∷
    (32 ∷ (55 ∷ (32 ∷ (45 ∷ (32 ∷ (45 ∷ (32 ∷ (45 ∷ []))))))))))))))))))))))) ≡ Submit)
    × (call_of (102 ∷ (114 ∷ (97 ∷ (109 ∷ (101 ∷ (32 ∷ (49 ∷ (48 ∷ (48 ∷ (32 ∷ (48 ∷ (32 ∷ (45 ∷ (32 ∷ (45 ∷ (32 ∷
    (68 ∷ (67 ∷ (48 ∷ (50 ∷ (48 ∷ (53 ∷ [])))))))))))))))))))))) ≡ Frame)
    × (call_of (115 ∷ (108 ∷ (111 ∷ (116 ∷ (32 ∷ (54 ∷ (48 ∷ (48 ∷ [])))))))) ≡ Slot)
    × (call_of (32 ∷ (99 ∷ (111 ∷ (108 ∷ (108 ∷ (101 ∷ (99 ∷ (116 ∷ (32 ∷ (32 ∷ (104 ∷ (105 ∷ (103 ∷ (104 ∷ (32 ∷
    []))))))))))))))) ≡ Collect)
    × (call_of (102 ∷ (114 ∷ (97 ∷ (109 ∷ (101 ∷ (32 ∷ (49 ∷ (48 ∷ (48 ∷ (32 ∷ (48 ∷ (32 ∷ (45 ∷ (32 ∷ (45 ∷ (32 ∷
    (68 ∷ (67 ∷ (48 ∷ (50 ∷ (48 ∷ []))))))))))))))))))))) ≡ Unknown)
    × (call_of (115 ∷ (104 ∷ (111 ∷ (119 ∷ (32 ∷ (49 ∷ [])))))) ≡ Unknown)
    × (call_of (115 ∷ (108 ∷ (111 ∷ (116 ∷ (32 ∷ (52 ∷ (50 ∷ (57 ∷ (52 ∷ (57 ∷ (54 ∷ (55 ∷ (50 ∷ (57 ∷ (54 ∷
    []))))))))))))))) ≡ Unknown)
    × (call_of (115 ∷ (116 ∷ (97 ∷ (114 ∷ (116 ∷ (32 ∷ (50 ∷ (48 ∷ (32 ∷ (48 ∷ (32 ∷ (50 ∷ (48 ∷ (32 ∷ (52 ∷ (48 ∷
    (48 ∷ (32 ∷ (49 ∷ (32 ∷ (49 ∷ (48 ∷ (48 ∷ (48 ∷ (48 ∷ (32 ∷ (49 ∷ (32 ∷ (50 ∷ (32 ∷ (50 ∷ (44 ∷ (49 ∷ (50 ∷
    (55 ∷ (32 ∷ (110 ∷ (111 ∷ (110 ∷ (101 ∷ (32 ∷ (52 ∷ (32 ∷ (52 ∷
    [])))))))))))))))))))))))))))))))))))))))))))) ≡ Unknown)
    × (call_of (32 ∷ (32 ∷ (32 ∷ []))) ≡ Unknown)
unfolding pick less same said spaces letters begins ends ahead begin_of begun words_behind word equal digit
    all_digits value_on read_on decimal nibble all_hex dash is_octets entry listed closing list_on list
    either queue room unserved service access called named numbers pair is_masters is_points standard tsdi_of start_pairs
    ref_of limit_of submit_pairs is_site is_start is_pointed is_request is_submit is_heard is_frame is_clocked is_collect plain_of clocked_of call_of
lines = (refl, refl, refl, refl, refl, refl, refl, refl, refl, refl)

-- lines with the pair of order 1, in turn:
-- "start 20 0 20 400 1 10000 1 2 2,5 none 4 4 tsdi 300"
-- "start 20 0 20 400 1 10000 1 2 2,5 none 4 4 tsdi"
-- "start 20 0 20 400 1 10000 1 2 2,5 none 4 4 tsdi 300 tsdi 300"
-- "start 20 0 20 400 1 10000 1 2 2,5 none 4 4 tset 20"
-- "start 20 0 20 400 1 10000 1 2 2,5 none 4 4 tsdi 4294967296"
pub pairs : (call_of (115 ∷ (116 ∷ (97 ∷ (114 ∷ (116 ∷ (32 ∷ (50 ∷ (48 ∷ (32 ∷ (48 ∷ (32 ∷ (50 ∷ (48 ∷ (32 ∷ (52 ∷ (48 ∷ (48 ∷ (32 ∷ (49 ∷ (32 ∷ (49 ∷ (48 ∷ (48 ∷ (48 ∷ (48 ∷ (32 ∷ (49 ∷ (32 ∷ (50 ∷ (32 ∷ (50 ∷ (44 ∷ (53 ∷ (32 ∷ (110 ∷ (111 ∷ (110 ∷ (101 ∷ (32 ∷ (52 ∷ (32 ∷ (52 ∷ (32 ∷ (116 ∷ (115 ∷ (100 ∷ (105 ∷ (32 ∷ (51 ∷ (48 ∷ (48 ∷ []))))))))))))))))))))))))))))))))))))))))))))))))))) ≡ Start)
    × (call_of (115 ∷ (116 ∷ (97 ∷ (114 ∷ (116 ∷ (32 ∷ (50 ∷ (48 ∷ (32 ∷ (48 ∷ (32 ∷ (50 ∷ (48 ∷ (32 ∷ (52 ∷ (48 ∷ (48 ∷ (32 ∷ (49 ∷ (32 ∷ (49 ∷ (48 ∷ (48 ∷ (48 ∷ (48 ∷ (32 ∷ (49 ∷ (32 ∷ (50 ∷ (32 ∷ (50 ∷ (44 ∷ (53 ∷ (32 ∷ (110 ∷ (111 ∷ (110 ∷ (101 ∷ (32 ∷ (52 ∷ (32 ∷ (52 ∷ (32 ∷ (116 ∷ (115 ∷ (100 ∷ (105 ∷ []))))))))))))))))))))))))))))))))))))))))))))))) ≡ Unknown)
    × (call_of (115 ∷ (116 ∷ (97 ∷ (114 ∷ (116 ∷ (32 ∷ (50 ∷ (48 ∷ (32 ∷ (48 ∷ (32 ∷ (50 ∷ (48 ∷ (32 ∷ (52 ∷ (48 ∷ (48 ∷ (32 ∷ (49 ∷ (32 ∷ (49 ∷ (48 ∷ (48 ∷ (48 ∷ (48 ∷ (32 ∷ (49 ∷ (32 ∷ (50 ∷ (32 ∷ (50 ∷ (44 ∷ (53 ∷ (32 ∷ (110 ∷ (111 ∷ (110 ∷ (101 ∷ (32 ∷ (52 ∷ (32 ∷ (52 ∷ (32 ∷ (116 ∷ (115 ∷ (100 ∷ (105 ∷ (32 ∷ (51 ∷ (48 ∷ (48 ∷ (32 ∷ (116 ∷ (115 ∷ (100 ∷ (105 ∷ (32 ∷ (51 ∷ (48 ∷ (48 ∷ [])))))))))))))))))))))))))))))))))))))))))))))))))))))))))))) ≡ Unknown)
    × (call_of (115 ∷ (116 ∷ (97 ∷ (114 ∷ (116 ∷ (32 ∷ (50 ∷ (48 ∷ (32 ∷ (48 ∷ (32 ∷ (50 ∷ (48 ∷ (32 ∷ (52 ∷ (48 ∷ (48 ∷ (32 ∷ (49 ∷ (32 ∷ (49 ∷ (48 ∷ (48 ∷ (48 ∷ (48 ∷ (32 ∷ (49 ∷ (32 ∷ (50 ∷ (32 ∷ (50 ∷ (44 ∷ (53 ∷ (32 ∷ (110 ∷ (111 ∷ (110 ∷ (101 ∷ (32 ∷ (52 ∷ (32 ∷ (52 ∷ (32 ∷ (116 ∷ (115 ∷ (101 ∷ (116 ∷ (32 ∷ (50 ∷ (48 ∷ [])))))))))))))))))))))))))))))))))))))))))))))))))) ≡ Unknown)
    × (call_of (115 ∷ (116 ∷ (97 ∷ (114 ∷ (116 ∷ (32 ∷ (50 ∷ (48 ∷ (32 ∷ (48 ∷ (32 ∷ (50 ∷ (48 ∷ (32 ∷ (52 ∷ (48 ∷ (48 ∷ (32 ∷ (49 ∷ (32 ∷ (49 ∷ (48 ∷ (48 ∷ (48 ∷ (48 ∷ (32 ∷ (49 ∷ (32 ∷ (50 ∷ (32 ∷ (50 ∷ (44 ∷ (53 ∷ (32 ∷ (110 ∷ (111 ∷ (110 ∷ (101 ∷ (32 ∷ (52 ∷ (32 ∷ (52 ∷ (32 ∷ (116 ∷ (115 ∷ (100 ∷ (105 ∷ (32 ∷ (52 ∷ (50 ∷ (57 ∷ (52 ∷ (57 ∷ (54 ∷ (55 ∷ (50 ∷ (57 ∷ (54 ∷ [])))))))))))))))))))))))))))))))))))))))))))))))))))))))))) ≡ Unknown)
unfolding pick less same said spaces letters begins ends ahead begin_of begun words_behind word equal digit
    all_digits value_on read_on decimal nibble all_hex dash is_octets entry listed closing list_on list
    either queue room unserved service access called named numbers pair is_masters is_points standard tsdi_of start_pairs
    ref_of limit_of submit_pairs is_site is_start is_pointed is_request is_submit is_heard is_frame is_clocked is_collect plain_of clocked_of call_of
pairs = (refl, refl, refl, refl, refl)

-- lines with the pairs of order 6, in turn:
-- "submit high srd 7 - - - ref 4711"
-- "submit low srd 7 - - - limit 0"
-- "submit high srd 7 - - - ref 4294967295 limit 255"
-- "submit high srd 7 - - - limit 0 ref 1"
-- "submit high srd 7 - - - ref 1 ref 1"
-- "submit high srd 7 - - - limit 256"
-- "submit high srd 7 - - - ref"
pub submits : (call_of (115 ∷ (117 ∷ (98 ∷ (109 ∷ (105 ∷ (116 ∷ (32 ∷ (104 ∷ (105 ∷ (103 ∷ (104 ∷ (32 ∷ (115 ∷ (114 ∷ (100 ∷ (32 ∷ (55 ∷ (32 ∷ (45 ∷ (32 ∷ (45 ∷ (32 ∷ (45 ∷ (32 ∷ (114 ∷ (101 ∷ (102 ∷ (32 ∷ (52 ∷ (55 ∷ (49 ∷ (49 ∷ [])))))))))))))))))))))))))))))))) ≡ Submit)
    × (call_of (115 ∷ (117 ∷ (98 ∷ (109 ∷ (105 ∷ (116 ∷ (32 ∷ (108 ∷ (111 ∷ (119 ∷ (32 ∷ (115 ∷ (114 ∷ (100 ∷ (32 ∷ (55 ∷ (32 ∷ (45 ∷ (32 ∷ (45 ∷ (32 ∷ (45 ∷ (32 ∷ (108 ∷ (105 ∷ (109 ∷ (105 ∷ (116 ∷ (32 ∷ (48 ∷ [])))))))))))))))))))))))))))))) ≡ Submit)
    × (call_of (115 ∷ (117 ∷ (98 ∷ (109 ∷ (105 ∷ (116 ∷ (32 ∷ (104 ∷ (105 ∷ (103 ∷ (104 ∷ (32 ∷ (115 ∷ (114 ∷ (100 ∷ (32 ∷ (55 ∷ (32 ∷ (45 ∷ (32 ∷ (45 ∷ (32 ∷ (45 ∷ (32 ∷ (114 ∷ (101 ∷ (102 ∷ (32 ∷ (52 ∷ (50 ∷ (57 ∷ (52 ∷ (57 ∷ (54 ∷ (55 ∷ (50 ∷ (57 ∷ (53 ∷ (32 ∷ (108 ∷ (105 ∷ (109 ∷ (105 ∷ (116 ∷ (32 ∷ (50 ∷ (53 ∷ (53 ∷ [])))))))))))))))))))))))))))))))))))))))))))))))) ≡ Submit)
    × (call_of (115 ∷ (117 ∷ (98 ∷ (109 ∷ (105 ∷ (116 ∷ (32 ∷ (104 ∷ (105 ∷ (103 ∷ (104 ∷ (32 ∷ (115 ∷ (114 ∷ (100 ∷ (32 ∷ (55 ∷ (32 ∷ (45 ∷ (32 ∷ (45 ∷ (32 ∷ (45 ∷ (32 ∷ (108 ∷ (105 ∷ (109 ∷ (105 ∷ (116 ∷ (32 ∷ (48 ∷ (32 ∷ (114 ∷ (101 ∷ (102 ∷ (32 ∷ (49 ∷ []))))))))))))))))))))))))))))))))))))) ≡ Unknown)
    × (call_of (115 ∷ (117 ∷ (98 ∷ (109 ∷ (105 ∷ (116 ∷ (32 ∷ (104 ∷ (105 ∷ (103 ∷ (104 ∷ (32 ∷ (115 ∷ (114 ∷ (100 ∷ (32 ∷ (55 ∷ (32 ∷ (45 ∷ (32 ∷ (45 ∷ (32 ∷ (45 ∷ (32 ∷ (114 ∷ (101 ∷ (102 ∷ (32 ∷ (49 ∷ (32 ∷ (114 ∷ (101 ∷ (102 ∷ (32 ∷ (49 ∷ []))))))))))))))))))))))))))))))))))) ≡ Unknown)
    × (call_of (115 ∷ (117 ∷ (98 ∷ (109 ∷ (105 ∷ (116 ∷ (32 ∷ (104 ∷ (105 ∷ (103 ∷ (104 ∷ (32 ∷ (115 ∷ (114 ∷ (100 ∷ (32 ∷ (55 ∷ (32 ∷ (45 ∷ (32 ∷ (45 ∷ (32 ∷ (45 ∷ (32 ∷ (108 ∷ (105 ∷ (109 ∷ (105 ∷ (116 ∷ (32 ∷ (50 ∷ (53 ∷ (54 ∷ []))))))))))))))))))))))))))))))))) ≡ Unknown)
    × (call_of (115 ∷ (117 ∷ (98 ∷ (109 ∷ (105 ∷ (116 ∷ (32 ∷ (104 ∷ (105 ∷ (103 ∷ (104 ∷ (32 ∷ (115 ∷ (114 ∷ (100 ∷ (32 ∷ (55 ∷ (32 ∷ (45 ∷ (32 ∷ (45 ∷ (32 ∷ (45 ∷ (32 ∷ (114 ∷ (101 ∷ (102 ∷ []))))))))))))))))))))))))))) ≡ Unknown)
unfolding pick less same said spaces letters begins ends ahead begin_of begun words_behind word equal digit
    all_digits value_on read_on decimal nibble all_hex dash is_octets entry listed closing list_on list
    either queue room unserved service access called named numbers pair is_masters is_points standard tsdi_of start_pairs
    ref_of limit_of submit_pairs is_site is_start is_pointed is_request is_submit is_heard is_frame is_clocked is_collect plain_of clocked_of call_of
submits = (refl, refl, refl, refl, refl, refl, refl)
