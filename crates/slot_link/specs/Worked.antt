-- Worked values of the pages in a slot, which the checker computes.
use Rattle.clean_frames.specs.Common.{PagingMessage}
use Rattle.clean_link.specs.Common.{binary, places, Plain, capsule, check_bits, R9600, fill, framed}
use Rattle.clean_link.specs.Common.{half_frames_of, laid_on, page_cycle, Page}
use Rattle.std.specs.Prelude.{◌≡◌, refl, true, false, List, [], ◌∷◌, ◌++◌, replicate}
use Rattle.paging_message.specs.Reading.{message_at}
use Rattle.paging_message.specs.declared.message.PagingMessage.TheVariants.{Other}
use Rattle.slot_link.specs.Laws.{pages_in_slot}

-- A page with a body of 10 bits, and one with a body of 146. In half-frames of 95 bits, the first
-- page takes one half-frame, and the second takes two, so the cycle has three.
pages : List Page
pages =
    record { follows = false; body = replicate 8 true ++ replicate 2 false } ∷
    record { follows = false; body = binary 8 6 ++ replicate 138 true } ∷ []

short : PagingMessage
short = Other (record { kind = 255; bits = replicate 2 false })

long : PagingMessage
long = Other (record { kind = 6; bits = replicate 138 true })

-- The slot of half-frames 0 to 7: the third long page is cut off by the slot's end.
first_slot : pages_in_slot R9600 Plain pages 0 ≡ short ∷ long ∷ short ∷ long ∷ short ∷ []
unfolding pages short long page_cycle pages_in_slot half_frames_of framed laid_on fill capsule
    check_bits places binary message_at
first_slot = refl

-- The slot of half-frames 8 to 15: it begins with the second half of that page, which is lost.
second_slot : pages_in_slot R9600 Plain pages 4 ≡ short ∷ long ∷ short ∷ long ∷ short ∷ []
unfolding pages short long page_cycle pages_in_slot half_frames_of framed laid_on fill capsule
    check_bits places binary message_at
second_slot = refl

-- The slot of half-frames 16 to 23: it begins with a whole page, and ends with a page's last bit.
third_slot : pages_in_slot R9600 Plain pages 8 ≡ long ∷ short ∷ long ∷ short ∷ long ∷ []
unfolding pages short long page_cycle pages_in_slot half_frames_of framed laid_on fill capsule
    check_bits places binary message_at
third_slot = refl
