-- The 170 classes: 0 to 58 are version 1's, 59 to 169 version 2's.
use Rattle.std.specs.Prelude.{ℕ, List, [], ◌∷◌, Option, ◌==◌, find, slice_range}
use Rattle.std.specs.Option.{option_map_or}
use Rattle.pa_buckets.specs.declared.spans.SpanShape.{SpanShape}
use Rattle.pa_buckets.specs.Limits.{first_class, past_class}

-- A class by its number: its slot size in bytes, and of each of its spans the partition pages, the system pages that
-- are used, the slots and the bytes left over.
pub record Row : Type 0 where
  pub class : ℕ
  pub slot : ℕ
  pub pages : ℕ
  pub system : ℕ
  pub slots : ℕ
  pub waste : ℕ

-- a class by these six numbers, in this order
abbrev pub class_row : ℕ → ℕ → ℕ → ℕ → ℕ → ℕ → Row
class_row class slot pages system slots waste =
    record { class = class; slot = slot; pages = pages; system = system; slots = slots; waste = waste }

-- the 170 classes, each by its number, slot size, pages, system pages, slots and waste
unfoldable pub rows : List Row
rows =
    class_row 0 16 1 4 1024 0
    ∷ class_row 1 32 1 4 512 0
    ∷ class_row 2 48 1 4 341 16
    ∷ class_row 3 64 1 4 256 0
    ∷ class_row 4 80 1 4 204 64
    ∷ class_row 5 96 1 4 170 64
    ∷ class_row 6 112 1 4 146 32
    ∷ class_row 7 128 1 4 128 0
    ∷ class_row 8 160 1 4 102 64
    ∷ class_row 9 192 1 4 85 64
    ∷ class_row 10 224 1 4 73 32
    ∷ class_row 11 256 1 4 64 0
    ∷ class_row 12 320 1 4 51 64
    ∷ class_row 13 384 3 12 128 0
    ∷ class_row 14 448 2 8 73 64
    ∷ class_row 15 512 1 4 32 0
    ∷ class_row 16 640 4 15 96 0
    ∷ class_row 17 768 3 12 64 0
    ∷ class_row 18 896 2 7 32 0
    ∷ class_row 19 1024 1 4 16 0
    ∷ class_row 20 1280 4 15 48 0
    ∷ class_row 21 1536 3 12 32 0
    ∷ class_row 22 1792 2 7 16 0
    ∷ class_row 23 2048 1 4 8 0
    ∷ class_row 24 2560 4 15 24 0
    ∷ class_row 25 3072 3 12 16 0
    ∷ class_row 26 3584 2 7 8 0
    ∷ class_row 27 4096 1 4 4 0
    ∷ class_row 28 5120 4 15 12 0
    ∷ class_row 29 6144 3 12 8 0
    ∷ class_row 30 7168 2 7 4 0
    ∷ class_row 31 8192 1 4 2 0
    ∷ class_row 32 10240 4 15 6 0
    ∷ class_row 33 12288 3 12 4 0
    ∷ class_row 34 14336 2 7 2 0
    ∷ class_row 35 16384 1 4 1 0
    ∷ class_row 36 20480 2 5 1 0
    ∷ class_row 37 24576 2 6 1 0
    ∷ class_row 38 28672 2 7 1 0
    ∷ class_row 39 32768 2 8 1 0
    ∷ class_row 40 40960 3 10 1 0
    ∷ class_row 41 49152 3 12 1 0
    ∷ class_row 42 57344 4 14 1 0
    ∷ class_row 43 65536 4 16 1 0
    ∷ class_row 44 81920 5 20 1 0
    ∷ class_row 45 98304 6 24 1 0
    ∷ class_row 46 114688 7 28 1 0
    ∷ class_row 47 131072 8 32 1 0
    ∷ class_row 48 163840 10 40 1 0
    ∷ class_row 49 196608 12 48 1 0
    ∷ class_row 50 229376 14 56 1 0
    ∷ class_row 51 262144 16 64 1 0
    ∷ class_row 52 327680 20 80 1 0
    ∷ class_row 53 393216 24 96 1 0
    ∷ class_row 54 458752 28 112 1 0
    ∷ class_row 55 524288 32 128 1 0
    ∷ class_row 56 655360 40 160 1 0
    ∷ class_row 57 786432 48 192 1 0
    ∷ class_row 58 917504 56 224 1 0
    ∷ class_row 59 16 1 4 1024 0
    ∷ class_row 60 32 1 4 512 0
    ∷ class_row 61 48 1 4 341 16
    ∷ class_row 62 64 1 4 256 0
    ∷ class_row 63 80 1 4 204 64
    ∷ class_row 64 96 1 4 170 64
    ∷ class_row 65 112 1 4 146 32
    ∷ class_row 66 128 1 4 128 0
    ∷ class_row 67 144 2 7 199 16
    ∷ class_row 68 160 1 4 102 64
    ∷ class_row 69 176 1 4 93 16
    ∷ class_row 70 192 1 4 85 64
    ∷ class_row 71 208 3 12 236 64
    ∷ class_row 72 224 1 4 73 32
    ∷ class_row 73 240 1 4 68 64
    ∷ class_row 74 256 1 4 64 0
    ∷ class_row 75 288 4 14 199 32
    ∷ class_row 76 320 1 4 51 64
    ∷ class_row 77 352 2 8 93 32
    ∷ class_row 78 384 3 12 128 0
    ∷ class_row 79 416 3 12 118 64
    ∷ class_row 80 448 2 8 73 64
    ∷ class_row 81 480 1 4 34 64
    ∷ class_row 82 512 1 4 32 0
    ∷ class_row 83 576 3 11 78 128
    ∷ class_row 84 640 4 15 96 0
    ∷ class_row 85 704 3 11 64 0
    ∷ class_row 86 768 3 12 64 0
    ∷ class_row 87 832 3 12 59 64
    ∷ class_row 88 896 2 7 32 0
    ∷ class_row 89 960 1 4 17 64
    ∷ class_row 90 1024 1 4 16 0
    ∷ class_row 91 1152 3 11 39 128
    ∷ class_row 92 1280 4 15 48 0
    ∷ class_row 93 1408 3 11 32 0
    ∷ class_row 94 1536 3 12 32 0
    ∷ class_row 95 1664 3 11 27 128
    ∷ class_row 96 1792 2 7 16 0
    ∷ class_row 97 1920 4 15 32 0
    ∷ class_row 98 2048 1 4 8 0
    ∷ class_row 99 2304 1 4 7 256
    ∷ class_row 100 2560 4 15 24 0
    ∷ class_row 101 2816 3 11 16 0
    ∷ class_row 102 3072 3 12 16 0
    ∷ class_row 103 3328 4 14 17 768
    ∷ class_row 104 3584 2 7 8 0
    ∷ class_row 105 3840 4 15 16 0
    ∷ class_row 106 4096 1 4 4 0
    ∷ class_row 107 4608 2 8 7 512
    ∷ class_row 108 5120 4 15 12 0
    ∷ class_row 109 5632 3 11 8 0
    ∷ class_row 110 6144 3 12 8 0
    ∷ class_row 111 6656 4 15 9 1536
    ∷ class_row 112 7168 2 7 4 0
    ∷ class_row 113 7680 4 15 8 0
    ∷ class_row 114 8192 1 4 2 0
    ∷ class_row 115 9216 4 16 7 1024
    ∷ class_row 116 10240 4 15 6 0
    ∷ class_row 117 11264 3 11 4 0
    ∷ class_row 118 12288 3 12 4 0
    ∷ class_row 119 13312 2 7 2 2048
    ∷ class_row 120 14336 2 7 2 0
    ∷ class_row 121 15360 4 15 4 0
    ∷ class_row 122 16384 1 4 1 0
    ∷ class_row 123 18432 2 5 1 2048
    ∷ class_row 124 20480 2 5 1 0
    ∷ class_row 125 22528 2 6 1 2048
    ∷ class_row 126 24576 2 6 1 0
    ∷ class_row 127 26624 2 7 1 2048
    ∷ class_row 128 28672 2 7 1 0
    ∷ class_row 129 30720 2 8 1 2048
    ∷ class_row 130 32768 2 8 1 0
    ∷ class_row 131 36864 3 9 1 0
    ∷ class_row 132 40960 3 10 1 0
    ∷ class_row 133 45056 3 11 1 0
    ∷ class_row 134 49152 3 12 1 0
    ∷ class_row 135 53248 4 13 1 0
    ∷ class_row 136 57344 4 14 1 0
    ∷ class_row 137 61440 4 15 1 0
    ∷ class_row 138 65536 4 16 1 0
    ∷ class_row 139 73728 5 18 1 0
    ∷ class_row 140 81920 5 20 1 0
    ∷ class_row 141 90112 6 22 1 0
    ∷ class_row 142 98304 6 24 1 0
    ∷ class_row 143 106496 7 26 1 0
    ∷ class_row 144 114688 7 28 1 0
    ∷ class_row 145 122880 8 30 1 0
    ∷ class_row 146 131072 8 32 1 0
    ∷ class_row 147 147456 9 36 1 0
    ∷ class_row 148 163840 10 40 1 0
    ∷ class_row 149 180224 11 44 1 0
    ∷ class_row 150 196608 12 48 1 0
    ∷ class_row 151 212992 13 52 1 0
    ∷ class_row 152 229376 14 56 1 0
    ∷ class_row 153 245760 15 60 1 0
    ∷ class_row 154 262144 16 64 1 0
    ∷ class_row 155 294912 18 72 1 0
    ∷ class_row 156 327680 20 80 1 0
    ∷ class_row 157 360448 22 88 1 0
    ∷ class_row 158 393216 24 96 1 0
    ∷ class_row 159 425984 26 104 1 0
    ∷ class_row 160 458752 28 112 1 0
    ∷ class_row 161 491520 30 120 1 0
    ∷ class_row 162 524288 32 128 1 0
    ∷ class_row 163 589824 36 144 1 0
    ∷ class_row 164 655360 40 160 1 0
    ∷ class_row 165 720896 44 176 1 0
    ∷ class_row 166 786432 48 192 1 0
    ∷ class_row 167 851968 52 208 1 0
    ∷ class_row 168 917504 56 224 1 0
    ∷ class_row 169 983040 60 240 1 0
    ∷ []

-- the rows of a version's classes
abbrev pub rows_of : ℕ → List Row
rows_of version = slice_range rows (first_class version) (past_class version)

-- the row of a class, or none for a number above 169
unfoldable pub row_of : ℕ → Option Row
row_of c = find (λ r. r.class == c) rows

-- the slot size of a class in bytes, or 0 for a number above 169
unfoldable pub slot_of : ℕ → ℕ
slot_of c = option_map_or (λ r. r.slot) (row_of c) 0

-- the partition pages of a class's span, or 0 for a number above 169
unfoldable pub pages_of : ℕ → ℕ
pages_of c = option_map_or (λ r. r.pages) (row_of c) 0

-- the system pages of 4,096 bytes that the slots of a class's span use, or 0 for a number above 169
unfoldable pub system_of : ℕ → ℕ
system_of c = option_map_or (λ r. r.system) (row_of c) 0

-- the slots of a class's span, or 0 for a number above 169
unfoldable pub slots_of : ℕ → ℕ
slots_of c = option_map_or (λ r. r.slots) (row_of c) 0

-- the bytes that the slots of a class's span leave over in its system pages, or 0 for a number above 169
unfoldable pub waste_of : ℕ → ℕ
waste_of c = option_map_or (λ r. r.waste) (row_of c) 0

-- the shape of a class's spans
abbrev pub span_shape_of : ℕ → SpanShape
span_shape_of c =
    record { pages = pages_of c; system_pages = system_of c; slots = slots_of c; waste = waste_of c }
