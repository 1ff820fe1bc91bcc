-- The theorems about the definitions of `meaning`.

-- numbered steps and nodes, and the forests that they are
pub mod Rising
pub mod Bridge
pub mod Outside
pub mod Blocks
pub mod WrittenRising
pub mod Below
pub mod Children
pub mod NumberedPlaces
-- laying, and satisfying as laying
pub mod StepPlaces
pub mod Laying
pub mod StarredLeaves
pub mod CoversOfCovers
pub mod Layings
pub mod Documents
pub mod Cutting
pub mod CoveringAnswers
-- merging
pub mod Walking
pub mod Choosing
pub mod Offering
pub mod JoinedBranches
pub mod MergeCovers
pub mod MergeSize
pub mod MergeLabels
pub mod MergeNears
-- sets and words as bits
pub mod MemberBits
pub mod Marks
pub mod HasAll
-- building and fairness
pub mod Unions
pub mod Settling
pub mod Chosen
pub mod Rounds
pub mod InOneEntry
pub mod Fairness
pub mod EveryEntry
-- what was read, and what was written
pub mod Readers
pub mod Refusals
pub mod DocumentRead
pub mod Labels
pub mod Preorder
pub mod Sound
pub mod JudgingGives
pub mod WrittenSound
pub mod SoundPatterns
pub mod ReadNumbers
pub mod RoundTrip
pub mod LabelsStand
pub mod TextRoom
pub mod BytesDecide
-- lines of the notation
pub mod NameNumbers
pub mod LineComplete
pub mod LineMeaning
pub mod LineLabels
pub mod LineSound
pub mod LinePlace
pub mod LineJudged
pub mod LineForest
pub mod LineAnswers
pub mod LineWritten
pub mod LineReadsBack
-- what was built passes the check
pub mod Passing
-- routes
pub mod Routes
pub mod ThreeParts
pub mod AnswerNumbers
pub mod WantedRoutes
pub mod Sheds
-- the rose bench examples
pub mod Cases
-- the three demands
pub mod Demands
